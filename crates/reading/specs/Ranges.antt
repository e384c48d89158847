-- The built-in test, on the extremes of a measurement and its current.
use Rattle.std.specs.Prelude.{Bool, ◌&&◌, pos, neg_ℤ}
use Rattle.rules.specs.declared.units.Milliamperes.{Milliamperes}
use Rattle.rules.specs.declared.sensors.Extremes.{Extremes}
use Rattle.rules.specs.Quantities.{mv, dc, ◌≤mV◌, ◌≤dC◌}
use Rattle.rules.specs.Test.{current_in_range}

abbrev pub extremes_in_range : Extremes → Milliamperes → Bool
extremes_in_range e i =
    ((mv 500 ≤mV e.lowest) && (e.highest ≤mV mv 5_000))
    && (current_in_range i && ((dc (neg_ℤ (pos 540)) ≤dC e.coldest) && (e.hottest ≤dC dc (pos 880))))
