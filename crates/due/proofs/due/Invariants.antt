use Rattle.std.proofs.Common.{◌≡◌}
use Rattle.rules.specs.Protections.{mask_below}
use Rattle.due.specs.Due.{is_due}
use Rattle.due.proofs.due.Given as goal

abbrev pub invariant-loop-protection : goal.invariant-loop-protection
invariant-loop-protection l = l.due ≡ mask_below (is_due l.beyond l.asked l.t l.fn.since) l.protection
