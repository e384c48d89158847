-- Document 01, "Protections": the table, a row for each, and the permitted charge current L.
use Rattle.std.specs.Prelude.{ℕ, zero, suc, ◌+◌, ◌-◌, ◌*◌, ◌/◌, ◌^◌, Bool, true, false, cond, ◌&&◌, List, [], ◌∷◌, ltb, get_or, ℤ, pos, negsuc, nat_abs}
use Rattle.rules.specs.declared.units.Millivolts.{Millivolts}
use Rattle.rules.specs.declared.units.Milliamperes.{Milliamperes}
use Rattle.rules.specs.declared.units.Milliseconds.{Milliseconds}
use Rattle.rules.specs.declared.units.DeciCelsius.{DeciCelsius}
use Rattle.rules.specs.declared.sensors.Reading.{Reading}
use Rattle.rules.specs.declared.sensors.Extremes.{Extremes}
use Rattle.rules.specs.Quantities.{mv, ma, ms, dc, ◌<mV◌, ◌≤mV◌, ◌<mA◌, ◌≤mA◌, ◌<dC◌, ◌≤dC◌, sum, negated, charge_rating, discharge_rating}

-- ---- highest and lowest cell, hottest and coldest

abbrev pub higher : Millivolts → Millivolts → Millivolts
higher a b = cond (a <mV b) b a

abbrev pub lower : Millivolts → Millivolts → Millivolts
lower a b = cond (b <mV a) b a

abbrev pub hotter : DeciCelsius → DeciCelsius → DeciCelsius
hotter a b = cond (a <dC b) b a

abbrev pub colder : DeciCelsius → DeciCelsius → DeciCelsius
colder a b = cond (b <dC a) b a

-- one of several, picked two at a time
abbrev pub picked : {Q : Type 0} → (Q → Q → Q) → Q → List Q → Q
picked pick a [] = a
picked pick a (b ∷ bs) = pick a (picked pick b bs)

-- the cells after the first, and the temperatures after the first
abbrev pub other_cells : Reading → List Millivolts
other_cells r = r.cell1 ∷ r.cell2 ∷ r.cell3 ∷ r.cell4 ∷ r.cell5 ∷ r.cell6 ∷ r.cell7 ∷ []

abbrev pub other_temperatures : Reading → List DeciCelsius
other_temperatures r = r.temperature1 ∷ r.temperature2 ∷ r.temperature3 ∷ []

unfoldable pub extremes : Reading → Extremes
extremes r = record {
  highest = picked higher r.cell0 (other_cells r);
  lowest = picked lower r.cell0 (other_cells r);
  hottest = picked hotter r.temperature0 (other_temperatures r);
  coldest = picked colder r.temperature0 (other_temperatures r);
}

-- ---- the permitted charge current

-- "C × (c + 50)² ÷ 90,000 rounded down", on figures, C and what it gives in ma and c in tenths of a degree, since it multiplies them
abbrev pub curve : (rating tenths : ℕ) → ℕ
curve rating tenths = rating * ((tenths + 50) * (tenths + 50)) / 90_000

-- "L is the permitted charge current at coldest temperature c: 0 if c < 0; C × (c + 50)² ÷ 90,000 rounded down if 0 ≤ c < 250;
-- otherwise C"
abbrev pub permitted_at : ℕ → ℤ → ℕ
permitted_at rating (negsuc c) = 0
permitted_at rating (pos c) = cond (ltb c 250) (curve rating c) rating

unfoldable pub permitted : ℕ → DeciCelsius → Milliamperes
permitted battery coldest = ma (pos (permitted_at (nat_abs (charge_rating battery).0) coldest.0))

-- ---- the table

-- document 01: "Each has a beyond test, a within test, a hold and a release time (ms). "Value" is what a trip records."
pub record Protection : Type 0 where
  pub value : Reading → ℤ
  pub beyond : Reading → Bool
  pub within : Reading → Bool
  pub hold : Milliseconds
  pub release : Milliseconds
  -- "Liftable: 1, 3, 6, 7"
  pub liftable : Bool

abbrev pub highest : Reading → Millivolts
highest r = (extremes r).highest

abbrev pub lowest : Reading → Millivolts
lowest r = (extremes r).lowest

abbrev pub hottest : Reading → DeciCelsius
hottest r = (extremes r).hottest

abbrev pub coldest : Reading → DeciCelsius
coldest r = (extremes r).coldest

-- highest minus lowest cell
abbrev pub spread : Reading → Millivolts
spread r = mv ((highest r).0 - (lowest r).0)

abbrev pub overvoltage : Protection
overvoltage = record {
  value = λ r. pos (highest r).0;
  beyond = λ r. mv 3_650 <mV highest r;
  within = λ r. highest r ≤mV mv 3_500;
  hold = ms 500;
  release = ms 2_000;
  liftable = false;
}

abbrev pub undervoltage : Protection
undervoltage = record {
  value = λ r. pos (lowest r).0;
  beyond = λ r. lowest r <mV mv 1_700;
  within = λ r. mv 2_800 ≤mV lowest r;
  hold = ms 2_000;
  release = ms 2_000;
  liftable = true;
}

abbrev pub overtemperature : Protection
overtemperature = record {
  value = λ r. (hottest r).0;
  beyond = λ r. dc (pos 710) <dC hottest r;
  within = λ r. hottest r ≤dC dc (pos 600);
  hold = ms 1_000;
  release = ms 5_000;
  liftable = false;
}

abbrev pub cold_charge : Protection
cold_charge = record {
  value = λ r. (coldest r).0;
  beyond = λ r. (coldest r <dC dc (pos 0)) && (ma (pos 500) <mA r.current);
  within = λ r. dc (pos 50) ≤dC coldest r;
  hold = ms 1_000;
  release = ms 5_000;
  liftable = true;
}

abbrev pub charge_overcurrent : ℕ → Protection
charge_overcurrent battery = record {
  value = λ r. r.current.0;
  beyond = λ r. sum (permitted battery (coldest r)) (ma (pos 2_000)) <mA r.current;
  within = λ r. r.current ≤mA permitted battery (coldest r);
  hold = ms 3_000;
  release = ms 10_000;
  liftable = false;
}

abbrev pub short_circuit : ℕ → Protection
short_circuit battery = record {
  value = λ r. r.current.0;
  beyond = λ r. r.current <mA negated (ma (pos 1_100_000));
  within = λ r. negated (discharge_rating battery) ≤mA r.current;
  hold = ms 0;
  release = ms 1_000;
  liftable = false;
}

abbrev pub discharge_overcurrent : ℕ → Protection
discharge_overcurrent battery = record {
  value = λ r. r.current.0;
  beyond = λ r. r.current <mA negated (discharge_rating battery);
  within = λ r. negated (discharge_rating battery) ≤mA r.current;
  hold = ms 30_500;
  release = ms 10_000;
  liftable = true;
}

abbrev pub imbalance : Protection
imbalance = record {
  value = λ r. pos (spread r).0;
  beyond = λ r. mv 500 <mV spread r;
  within = λ r. spread r ≤mV mv 300;
  hold = ms 10_000;
  release = ms 10_000;
  liftable = true;
}

-- the rows 0 to 7 of a battery type
abbrev pub table : ℕ → List Protection
table battery =
    overvoltage ∷ undervoltage ∷ overtemperature ∷ cold_charge ∷ charge_overcurrent battery ∷ short_circuit battery ∷ discharge_overcurrent battery ∷ imbalance ∷ []

-- the row of a number; there is none from 8 on, and row 0 answers
unfoldable pub row_of : ℕ → ℕ → Protection
row_of battery protection = get_or (table battery) protection overvoltage

-- "as a mask with bit = number": of the protections below n, those that a test picks
abbrev pub mask_below : (ℕ → Bool) → ℕ → ℕ
mask_below test zero = 0
mask_below test (suc protection) = mask_below test protection + cond (test protection) (2 ^ protection) 0
