-- A test that is enough: a measurement that passes it is within the limits of all eight, which calm!Calm has. A means, and no rule.
use Rattle.std.specs.Prelude.{ℕ, Bool, ◌&&◌, ◌||◌, pos}
use Rattle.rules.specs.declared.sensors.Reading.{Reading}
use Rattle.rules.specs.declared.units.DeciCelsius.{DeciCelsius}
use Rattle.rules.specs.declared.units.Milliamperes.{Milliamperes}
use Rattle.rules.specs.Quantities.{mv, ma, dc, ◌≤mV◌, ◌≤mA◌, ◌≤dC◌, negated, discharge_rating}
use Rattle.rules.specs.Protections.{highest, lowest, hottest, coldest, spread}

-- at a temperature from so many tenths of a degree on, a current of at most so much
abbrev pub permitted_from : DeciCelsius → Milliamperes → (tenths most : ℕ) → Bool
permitted_from coldest i tenths most = (dc (pos tenths) ≤dC coldest) && (i ≤mA ma (pos most))

-- what is permitted at each fifth degree for a charge rating of 60,000 ma, rounded down
unfoldable pub surely_permitted : DeciCelsius → Milliamperes → Bool
surely_permitted coldest i =
    (i ≤mA ma (pos 0))
    || (permitted_from coldest i 50 6_666
    || (permitted_from coldest i 100 15_000
    || (permitted_from coldest i 150 26_666 || (permitted_from coldest i 200 41_666 || permitted_from coldest i 250 60_000))))

unfoldable pub is_calm : ℕ → Reading → Bool
is_calm battery r =
    (highest r ≤mV mv 3_500)
    && ((mv 2_800 ≤mV lowest r)
    && ((hottest r ≤dC dc (pos 600))
    && ((dc (pos 50) ≤dC coldest r)
    && (surely_permitted (coldest r) r.current
    && ((negated (discharge_rating battery) ≤mA r.current) && (spread r ≤mV mv 300))))))
