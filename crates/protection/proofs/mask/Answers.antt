use Rattle.std.proofs.Common.{rules, false, get_or}
use Rattle.protection.proofs.Laws.{room}
use Rattle.protection.proofs.mask.Goals as goal

pub overflow_add-mask : goal.overflow_add-mask
overflow_add-mask c =
    let l = c.loop-protection in
    room (λ n. get_or c.args.tests n false) l.mask l.protection (search rules) l.invariant

pub returns : goal.returns
returns c = search rules
