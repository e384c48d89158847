-- The rule of the accounts: which measurements add to them; in naturals, what a part takes of a halved product and of a sum of two currents;
-- and that it is a mean's.
use mathlib.Core.Path.{◌≡◌, refl, sym, ap, subst, ◌∙◌}
use mathlib.Core.Bool.{Bool, true, false, cond}
use mathlib.Core.List.{List, ◌∷◌}
use Prim.Native.Nat.{ℕ, zero, suc, ◌+◌, ◌-◌, ◌*◌, ◌/◌}
use native.Mathlib.Nat.{zero-mul, add-mul}
use native.Mathlib.Omega.{arith}
use borrow.Author.Tests.{ltb-true, ltb-false}
use lib.Dec.{T, ltb}
use lib.IntN.{ℤ, pos, negsuc, neg_ℤ, sub_ℕ, ◌+ℤ◌, ◌*ℤ◌, +ℤ_comm}
use Rattle.rules.specs.declared.units.Milliamperes.{Milliamperes}
use Rattle.rules.specs.declared.units.Milliseconds.{Milliseconds}
use Rattle.rules.specs.Quantities.{ma_ms, elapsed}
use Rattle.rules.specs.Test.{plausible}
use Rattle.rules.specs.Trips.{Measured}
use Rattle.rules.specs.Accounts.{flow, halved, positive_part, negative_part, increment}
use Rattle.rules.proofs.Bools.{is_true}

-- ---- a measurement beside the last one before it
module _ (part : ℤ → ℕ) (earlier : Measured) (past : List Measured) (now : Measured) where
  pub not_both : ¬ (T (plausible earlier.reading) × T (plausible now.reading)) → increment part (earlier ∷ past) now ≡ ma_ms 0
  not_both apart = go (plausible earlier.reading) refl (plausible now.reading) refl
    where
      go : (x : Bool) → plausible earlier.reading ≡ x → (y : Bool) → plausible now.reading ≡ y
          → increment part (earlier ∷ past) now ≡ ma_ms 0
      go true e true f = absurd (apart (subst T (sym e) tt, subst T (sym f) tt))
      go true e false f = rw (e, f) refl
      go false e y f = rw e refl

  pub both_plausible : T (plausible earlier.reading) → T (plausible now.reading)
      → let result = halved (flow earlier.reading.current now.reading.current (elapsed earlier.at now.at)) in
      increment part (earlier ∷ past) now ≡ ma_ms (part result)
  both_plausible h k = rw ((is_true (plausible earlier.reading)).0 h, (is_true (plausible now.reading)).0 k) refl

-- ---- a negated natural
positive_negated : (n : ℕ) → positive_part (neg_ℤ (pos n)) ≡ 0
positive_negated zero = refl
positive_negated (suc n) = refl

negative_negated : (n : ℕ) → negative_part (neg_ℤ (pos n)) ≡ n
negative_negated zero = refl
negative_negated (suc n) = refl

halved_negated : (n : ℕ) → halved (neg_ℤ (pos n)) ≡ neg_ℤ (pos (n / 2))
halved_negated zero = refl
halved_negated (suc n) = refl

-- ---- a product, halved: the part of the sum times the time, halved, for every sum and time
pub positive_flow : (sum : ℤ) (t : ℕ) → positive_part (halved (sum *ℤ pos t)) ≡ positive_part sum * t / 2
positive_flow (pos n) t = refl
positive_flow (negsuc n) t = ap positive_part (halved_negated (suc n * t)) ∙ positive_negated (suc n * t / 2) ∙ rw (zero-mul t) refl

pub negative_flow : (sum : ℤ) (t : ℕ) → negative_part (halved (sum *ℤ pos t)) ≡ negative_part sum * t / 2
negative_flow (pos n) t = rw (zero-mul t) refl
negative_flow (negsuc n) t = ap negative_part (halved_negated (suc n * t)) ∙ negative_negated (suc n * t / 2)

-- ---- a sum: what either part has more than the other
positive_sub : (a b : ℕ) → positive_part (sub_ℕ a b) ≡ a - b
positive_sub a b = go (ltb a b) refl
  where
    go : (x : Bool) → ltb a b ≡ x → positive_part (cond x (negsuc (b - suc a)) (pos (a - b))) ≡ a - b
    go true e = omega (arith, ltb-true a b e)
    go false e = refl

negative_sub : (a b : ℕ) → negative_part (sub_ℕ a b) ≡ b - a
negative_sub a b = go (ltb a b) refl
  where
    go : (x : Bool) → ltb a b ≡ x → negative_part (cond x (negsuc (b - suc a)) (pos (a - b))) ≡ b - a
    go true e = omega (arith, ltb-true a b e)
    go false e = omega (arith, ltb-false a b e)

pub positive_sum : (i j : ℤ) → positive_part (i +ℤ j) ≡ (positive_part i + positive_part j) - (negative_part i + negative_part j)
positive_sum (pos a) (pos b) = omega arith
positive_sum (pos a) (negsuc b) = positive_sub a (suc b) ∙ omega arith
positive_sum (negsuc a) (pos b) = positive_sub b (suc a) ∙ omega arith
positive_sum (negsuc a) (negsuc b) = omega arith

pub negative_sum : (i j : ℤ) → negative_part (i +ℤ j) ≡ (negative_part i + negative_part j) - (positive_part i + positive_part j)
negative_sum (pos a) (pos b) = omega arith
negative_sum (pos a) (negsuc b) = negative_sub a (suc b) ∙ omega arith
negative_sum (negsuc a) (pos b) = negative_sub b (suc a) ∙ omega arith
negative_sum (negsuc a) (negsuc b) = omega arith

-- ---- a mean: the order of the two makes no difference, and that of a current with itself is the current
pub either_order : (i j : Milliamperes) (t : Milliseconds) → flow i j t ≡ flow j i t
either_order i j t = ap (λ (sum : ℤ). sum *ℤ pos t.0) (+ℤ_comm i.0 j.0)

twice : (n t : ℕ) → (n + n) * t / 2 ≡ n * t
twice n t = omega (arith, add-mul n n t)

pub steady : (i : Milliamperes) (t : Milliseconds) → halved (flow i i t) ≡ i.0 *ℤ pos t.0
steady i t = go i.0
  where
    go : (z : ℤ) → halved ((z +ℤ z) *ℤ pos t.0) ≡ z *ℤ pos t.0
    go (pos n) = ap pos (twice n t.0)
    go (negsuc n) = let both : suc (suc (n + n)) ≡ suc n + suc n = omega arith in
        halved_negated (suc (suc (n + n)) * t.0) ∙ ap (λ (m : ℕ). neg_ℤ (pos m)) (ap (λ (m : ℕ). m * t.0 / 2) both ∙ twice (suc n) t.0)
