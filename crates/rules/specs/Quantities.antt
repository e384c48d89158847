-- Document 01, "Quantities".
use Rattle.std.specs.Prelude.{ℕ, ◌-◌, Bool, cond, ◌||◌, leb, ltb, eqb, ℤ, pos, neg_ℤ, ◌+ℤ◌}
use Rattle.std.specs.Int.Signed.{le_z, lt_z}
use Rattle.rules.specs.declared.units.Millivolts.{Millivolts}
use Rattle.rules.specs.declared.units.Milliamperes.{Milliamperes}
use Rattle.rules.specs.declared.units.Milliseconds.{Milliseconds}
use Rattle.rules.specs.declared.units.DeciCelsius.{DeciCelsius}
use Rattle.rules.specs.declared.units.Charge.{Charge}

-- A figure with its unit. Figures below 0 are written as negations: `ma (neg_ℤ (pos 5))`.
abbrev pub mv : ℕ → Millivolts
mv n = record { 0 = n }

abbrev pub ma : ℤ → Milliamperes
ma z = record { 0 = z }

abbrev pub ms : ℕ → Milliseconds
ms n = record { 0 = n }

abbrev pub dc : ℤ → DeciCelsius
dc z = record { 0 = z }

abbrev pub ma_ms : ℕ → Charge
ma_ms n = record { 0 = n }

-- Tests between two quantities of one unit: there is none between two units.
infix 50 ◌<mV◌ ◌≤mV◌ ◌<mA◌ ◌≤mA◌ ◌<ms◌ ◌≤ms◌ ◌<dC◌ ◌≤dC◌
abbrev pub ◌<mV◌ : Millivolts → Millivolts → Bool
◌<mV◌ a b = ltb a.0 b.0

abbrev pub ◌≤mV◌ : Millivolts → Millivolts → Bool
◌≤mV◌ a b = leb a.0 b.0

abbrev pub ◌<mA◌ : Milliamperes → Milliamperes → Bool
◌<mA◌ a b = lt_z a.0 b.0

abbrev pub ◌≤mA◌ : Milliamperes → Milliamperes → Bool
◌≤mA◌ a b = le_z a.0 b.0

abbrev pub ◌<ms◌ : Milliseconds → Milliseconds → Bool
◌<ms◌ a b = ltb a.0 b.0

abbrev pub ◌≤ms◌ : Milliseconds → Milliseconds → Bool
◌≤ms◌ a b = leb a.0 b.0

abbrev pub ◌<dC◌ : DeciCelsius → DeciCelsius → Bool
◌<dC◌ a b = lt_z a.0 b.0

abbrev pub ◌≤dC◌ : DeciCelsius → DeciCelsius → Bool
◌≤dC◌ a b = le_z a.0 b.0

-- Sums and differences within one unit.
abbrev pub sum : Milliamperes → Milliamperes → Milliamperes
sum a b = ma (a.0 +ℤ b.0)

abbrev pub negated : Milliamperes → Milliamperes
negated a = ma (neg_ℤ a.0)

-- from a time to a later one; 0 where it is not later
abbrev pub elapsed : Milliseconds → Milliseconds → Milliseconds
elapsed start end = ms (end.0 - start.0)

-- "Time runs from 0 to 345,600,000 ms"
abbrev pub mission_time : Milliseconds
mission_time = ms 345_600_000

-- The battery types are 1, 2 and 3.
abbrev pub is_type : ℕ → Bool
is_type battery = eqb battery 1 || (eqb battery 2 || eqb battery 3)

-- "types 1 and 2: charge rating C = 60,000 ma, discharge rating D = 120,000 ma. Type 3: C = 90,000, D = 180,000."
-- There is no fourth type; where one is asked for, type 1's ratings answer.
abbrev pub charge_rating : ℕ → Milliamperes
charge_rating battery = cond (eqb battery 3) (ma (pos 90_000)) (ma (pos 60_000))

abbrev pub discharge_rating : ℕ → Milliamperes
discharge_rating battery = cond (eqb battery 3) (ma (pos 180_000)) (ma (pos 120_000))
