-- the bits of those before it
use Rattle.std.proofs.Common.{◌≡◌, false, get_or}
use Rattle.rules.specs.Protections.{mask_below}
use Rattle.protection.proofs.mask.Given as goal

abbrev pub invariant-loop-protection : goal.invariant-loop-protection
invariant-loop-protection l = l.mask ≡ mask_below (λ protection. get_or l.fn.tests protection false) l.protection
