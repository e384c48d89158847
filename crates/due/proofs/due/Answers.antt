-- Where none is asked, none is due; else the eight bits make up the mask.
use Rattle.std.proofs.Common.{rules, ◌≡◌}
use Rattle.rules.proofs.Lists.{mapped}
use Rattle.due.specs.Due.{is_due}
use Rattle.due.proofs.Laws.{due_none, room, eight}
use Rattle.due.proofs.due.Goals as goal

pub returns-then-asked-eq0 : goal.returns-then-asked-eq0
returns-then-asked-eq0 c = due_none c.args.beyond c.args.asked c.args.t c.args.since c.if-asked-eq0.true

pub overflow_add-due : goal.overflow_add-due
overflow_add-due c =
    let v = c.args in
    room (is_due v.beyond v.asked v.t v.since) c.loop-protection.due c.loop-protection.protection (search (rules, mapped)) c.loop-protection.invariant

pub returns : goal.returns
returns c =
    let v = c.args in
    let all : c.loop-protection.protection ≡ 8 = search (rules, mapped) in
    eight v.beyond v.asked v.t v.since _ _ c.loop-protection.invariant all
