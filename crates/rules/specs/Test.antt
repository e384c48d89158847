-- Document 01, "The built-in test".
use Rattle.std.specs.Prelude.{ℕ, ◌+◌, ◌*◌, Bool, cond, ◌&&◌, List, [], ◌∷◌, pos, neg_ℤ}
use Rattle.std.specs.Int.Count.{ones}
use Rattle.rules.specs.declared.units.Millivolts.{Millivolts}
use Rattle.rules.specs.declared.units.Milliamperes.{Milliamperes}
use Rattle.rules.specs.declared.units.DeciCelsius.{DeciCelsius}
use Rattle.rules.specs.declared.sensors.Reading.{Reading}
use Rattle.rules.specs.Lists.{all}
use Rattle.rules.specs.Quantities.{mv, ma, dc, ◌≤mV◌, ◌≤mA◌, ◌≤dC◌, negated}

-- "every cell is 500 to 5,000, the current -2,000,000 to 2,000,000 and every temperature -540 to 880"
abbrev pub cell_in_range : Millivolts → Bool
cell_in_range v = (mv 500 ≤mV v) && (v ≤mV mv 5_000)

abbrev pub greatest_current : Milliamperes
greatest_current = ma (pos 2_000_000)

abbrev pub current_in_range : Milliamperes → Bool
current_in_range i = (negated greatest_current ≤mA i) && (i ≤mA greatest_current)

abbrev pub temperature_in_range : DeciCelsius → Bool
temperature_in_range t = (dc (neg_ℤ (pos 540)) ≤dC t) && (t ≤dC dc (pos 880))

-- Whether each of the 13 sensors is in its range, in the mask's order: "bits 0 to 7 the cells in order, 8 the current, 9 to 12 the
-- temperatures".
abbrev pub in_range : Reading → List Bool
in_range r =
    cell_in_range r.cell0
    ∷ cell_in_range r.cell1
    ∷ cell_in_range r.cell2
    ∷ cell_in_range r.cell3
    ∷ cell_in_range r.cell4
    ∷ cell_in_range r.cell5
    ∷ cell_in_range r.cell6
    ∷ cell_in_range r.cell7
    ∷ current_in_range r.current
    ∷ temperature_in_range r.temperature0
    ∷ temperature_in_range r.temperature1
    ∷ temperature_in_range r.temperature2
    ∷ temperature_in_range r.temperature3
    ∷ []

-- document 01: "plausible"
unfoldable pub plausible : Reading → Bool
plausible r = all (in_range r)

-- the number whose binary digits, the lowest first, are 1 where the list has false
abbrev pub mask_of : List Bool → ℕ
mask_of [] = 0
mask_of (ok ∷ oks) = cond ok 0 1 + 2 * mask_of oks

-- "The failed sensors, those whose value lies outside its range, form a 13-bit mask"
unfoldable pub failed_mask : Reading → ℕ
failed_mask r = mask_of (in_range r)

-- "the number of failed sensors is the ones in that mask"
unfoldable pub failed_count : Reading → ℕ
failed_count r = ones (failed_mask r)
