-- What the code holds a current against as a charge.
use Rattle.std.specs.Prelude.{cond, pos}
use Rattle.rules.specs.declared.units.Milliamperes.{Milliamperes}
use Rattle.rules.specs.Quantities.{ma, ◌≤mA◌}

-- what is permitted, and 0 for a current of at most 0. A means, and no rule: that it leaves the row on charge overcurrent as it is, is
-- protection!Laws.charge_side_lem.
abbrev pub charge_bound : Milliamperes → Milliamperes → Milliamperes
charge_bound l i = cond (i ≤mA ma (pos 0)) (ma (pos 0)) l
