-- The accounts of the step are those of the rules, and never pass 2,000,000 × the time of the session's last measurement.
use mathlib.Core.Path.{◌≡◌, refl, sym, subst}
use mathlib.Core.Bool.{Bool, true, false, cond, ◌&&◌}
use mathlib.Core.List.{List, [], ◌∷◌}
use Prim.Native.Nat.{ℕ, zero, suc, ◌+◌, ◌*◌, ◌/◌, ◌≤◌, zero-le, suc-le-suc}
use native.Mathlib.Nat.{mul-le-mul_right}
use native.Mathlib.Omega.{arith}
use lib.Dec.{T, leb, leb→le}
use lib.IntN.{ℤ, pos, negsuc, ◌+ℤ◌, ◌*ℤ◌}
use lib.ListN.{get_or}
use Rattle.rules.specs.declared.units.Milliamperes.{Milliamperes}
use Rattle.rules.specs.declared.units.Milliseconds.{Milliseconds}
use Rattle.rules.specs.declared.sensors.Reading.{Reading}
use Rattle.rules.specs.Soundness.{Previous}
use Rattle.std.specs.Prelude.{None, Some}
use Rattle.rules.specs.Quantities.{ma, ma_ms, elapsed}
use Rattle.rules.specs.Test.{plausible, current_in_range, in_range}
use Rattle.rules.specs.Trips.{Measured, time}
use Rattle.rules.specs.Accounts.{flow, halved, positive_part, negative_part, increment}
use Rattle.rules.specs.Soundness.{account_limit}
use Rattle.rules.specs.Lists.{all}
use Rattle.rules.proofs.Bools.{and_iff}
use Rattle.rules.proofs.Flow.{positive_flow, negative_flow, positive_sum, negative_sum}
use Rattle.step.specs.Charge.{increment_from}
use Rattle.step.proofs.Tracking.{AllBy}

-- what the record keeps of the last measurement
abbrev pub previous_of : List Measured → Previous
previous_of [] = None
previous_of (m ∷ taken) = cond (plausible m.reading) (Some (m.at, m.reading.current)) None

pub increment_from_lem : (part : ℤ → ℕ) (taken : List Measured) (t : Milliseconds) (r : Reading)
    → increment_from part (previous_of taken) (plausible r) t r.current ≡ increment part taken (record { at = t; reading = r })
increment_from_lem part [] t r = refl
increment_from_lem part (m ∷ taken) t r = go (plausible m.reading) (plausible r)
  where
    go : (a b : Bool) → increment_from part (cond a (Some (m.at, m.reading.current)) None) b t r.current
        ≡ ma_ms (cond (a && b) (part (halved (flow m.reading.current r.current (elapsed m.at t)))) 0)
    go true b = refl
    go false b = refl

-- ---- how much one measurement can add

abbrev pub Bounded : (ℤ → ℕ) → Type 0
Bounded part =
    (earlier later : Milliamperes) → T (current_in_range earlier) → T (current_in_range later) → (t : Milliseconds)
    → part (halved (flow earlier later t)) ≤ (account_limit t).0

positive_by : (i : ℤ) → T (current_in_range (ma i)) → positive_part i ≤ 2_000_000
positive_by (pos n) h = leb→le n 2_000_000 h
positive_by (negsuc n) h = zero-le

negative_by : (i : ℤ) → T (current_in_range (ma i)) → negative_part i ≤ 2_000_000
negative_by (pos n) h = zero-le
negative_by (negsuc n) h = suc-le-suc (leb→le n 1_999_999 ((and_iff (leb n 1_999_999) true).0 h).0)

-- twice the greatest current, times the time, halved
half_of : (sum t : ℕ) → sum ≤ 4_000_000 → sum * t / 2 ≤ 2_000_000 * t
half_of sum t h = omega (arith, mul-le-mul_right t h)

bounded : (part : ℤ → ℕ) → ((sum : ℤ) (t : ℕ) → part (halved (sum *ℤ pos t)) ≡ part sum * t / 2) → ((i j : ℤ) → part (i +ℤ j) ≤ part i + part j)
    → ((i : ℤ) → T (current_in_range (ma i)) → part i ≤ 2_000_000) → Bounded part
bounded part of-product of-sum by i j h k t =
    rw (of-product (i.0 +ℤ j.0) t.0)
    (half_of (part (i.0 +ℤ j.0)) t.0 (omega (arith, of-sum i.0 j.0, by i.0 h, by j.0 k)))

pub positive_bounded : Bounded positive_part
positive_bounded = bounded positive_part positive_flow (λ i j. omega (arith, positive_sum i j)) positive_by

pub negative_bounded : Bounded negative_part
negative_bounded = bounded negative_part negative_flow (λ i j. omega (arith, negative_sum i j)) negative_by

-- a plausible measurement's current is in its range: it is sensor 8
every : (tests : List Bool) (i : ℕ) → T (all tests) → T (get_or tests i true)
every [] i h = tt
every (test ∷ tests) zero h = ((and_iff test (all tests)).0 h).0
every (test ∷ tests) (suc i) h = every tests i ((and_iff test (all tests)).0 h).1

pub plausible_current : (r : Reading) → T (plausible r) → T (current_in_range r.current)
unfolding plausible
plausible_current r h = every (in_range r) 8 h

-- the time that an account is measured against: that of the session's last measurement, or the last time where there is none
abbrev pub account_time : ℕ → List Measured → ℕ
account_time last [] = last
account_time last (m ∷ taken) = time m

pub increment_bounded : (part : ℤ → ℕ) → Bounded part → (taken : List Measured) (now : Measured) (last account : ℕ)
    → account_time last taken ≤ time now → account ≤ 2_000_000 * account_time last taken → account + (increment part taken now).0 ≤ 2_000_000 * time now
increment_bounded part b [] now last account h k = omega (arith)
increment_bounded part b (m ∷ taken) now last account h k = go (plausible m.reading) refl (plausible now.reading) refl
  where
    go : (x : Bool) → plausible m.reading ≡ x → (y : Bool) → plausible now.reading ≡ y
        → account + cond (x && y) (part (halved (flow m.reading.current now.reading.current (elapsed m.at now.at)))) 0 ≤ 2_000_000 * time now
    go true e true f =
        let first = plausible_current m.reading (subst T (sym e) tt) in
        let second = plausible_current now.reading (subst T (sym f) tt) in
        omega (arith, b m.reading.current now.reading.current first second (elapsed m.at now.at))
    go true e false f = omega arith
    go false e y f = omega arith

pub account_time_lem : (last : ℕ) (taken : List Measured) → AllBy last taken → account_time last taken ≤ last
account_time_lem last [] b = omega arith
account_time_lem last (m ∷ taken) b = b.0

pub account_going : (last t : ℕ) (taken : List Measured) → last ≤ t → account_time last taken ≤ account_time t taken
account_going last t [] h = h
account_going last t (m ∷ taken) h = omega arith
