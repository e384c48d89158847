-- Where no span begins, every start is left; else each is gone through.
use Rattle.std.proofs.Common.{◌≡◌, length, rules}
use Rattle.rules.proofs.Lists.{mapped}
use Rattle.tracking.proofs.Laws.{since_none, next_begun, begun_all}
use Rattle.tracking.proofs.since_all.Goals as goal

pub returns-then-begun-eq0 : goal.returns-then-begun-eq0
returns-then-begun-eq0 c =
    let places : length c.args.since ≡ 8 = search (rules, mapped) in
    since_none c.args.begun c.args.t c.args.since places c.if-begun-eq0.true

pub loop-protection-init : goal.loop-protection-init
loop-protection-init c = search (rules, mapped)

pub loop-protection-preserved : goal.loop-protection-preserved
loop-protection-preserved c =
    let v = c.args in
    let l = c.loop-protection in
    next_begun v.begun v.t v.since l.start-items l.protection l.invariant _ (search rules) c.since_at.ensures

pub returns : goal.returns
returns c =
    let v = c.args in
    let l = c.loop-protection in
    begun_all v.begun v.t v.since l.start-items l.protection l.invariant (search rules)
