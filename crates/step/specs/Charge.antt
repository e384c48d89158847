-- The accounts at a measurement.
use Rattle.std.specs.Prelude.{ℕ, ◌+◌, Bool, cond, ℤ}
use Rattle.rules.specs.declared.units.Milliamperes.{Milliamperes}
use Rattle.rules.specs.declared.units.Milliseconds.{Milliseconds}
use Rattle.rules.specs.declared.units.Charge.{Charge}
use Rattle.rules.specs.Soundness.{Previous}
use Rattle.std.specs.Prelude.{None, Some}
use Rattle.rules.specs.declared.battery.Tally.{Tally}
use Rattle.rules.specs.Quantities.{ma_ms, elapsed}
use Rattle.rules.specs.Accounts.{flow, halved, positive_part, negative_part}

-- since the last measurement, if it and this one are plausible
abbrev pub increment_from : (ℤ → ℕ) → Previous → Bool → Milliseconds → Milliamperes → Charge
increment_from part None plausible t i = ma_ms 0
increment_from part (Some (start, earlier)) plausible t i = ma_ms (cond plausible (part (halved (flow earlier i (elapsed start t)))) 0)

unfoldable pub charge : Previous → Bool → Milliseconds → Milliamperes → Tally → Tally
charge previous plausible t i n = record {
  commands = n.commands;
  charged = ma_ms (n.charged.0 + (increment_from positive_part previous plausible t i).0);
  discharged = ma_ms (n.discharged.0 + (increment_from negative_part previous plausible t i).0);
}
