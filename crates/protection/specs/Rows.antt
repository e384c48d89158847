-- The tests of all eight protections on one measurement.
use Rattle.std.specs.Prelude.{ℕ, List}
use Rattle.rules.specs.declared.sensors.Reading.{Reading}
use Rattle.rules.specs.Protections.{row_of, mask_below}
use Rattle.rules.specs.Lists.{tabulate}
use Rattle.protection.specs.declared.Side.{Side}
use Rattle.protection.specs.declared.Masks.{Masks}

unfoldable pub sides_of : ℕ → Reading → List Side
sides_of battery r = tabulate 8 (λ protection. record { beyond = (row_of battery protection).beyond r; within = (row_of battery protection).within r })

unfoldable pub masks_of : ℕ → Reading → Masks
masks_of battery r = record {
  beyond = mask_below (λ protection. (row_of battery protection).beyond r) 8;
  within = mask_below (λ protection. (row_of battery protection).within r) 8;
}
