-- the bits of those before it
use Rattle.std.proofs.Common.{◌≡◌}
use Rattle.rules.specs.Protections.{mask_below}
use Rattle.reading.proofs.Laws.{is_failed}
use Rattle.reading.proofs.mask.Given as goal

abbrev pub invariant-loop-sensor : goal.invariant-loop-sensor
invariant-loop-sensor l = l.mask ≡ mask_below (is_failed l.fn.oks) l.sensor
