-- A number's decimal digits: the rule without its bound on their number, and how many there are.
use mathlib.Core.Path.{◌≡◌, refl, ap}
use mathlib.Core.Bool.{Bool, true, false, cond}
use mathlib.Core.List.{List, [], ◌∷◌, ◌++◌}
use Prim.Native.Nat.{ℕ, zero, suc, ◌/◌, ◌%◌, ◌^◌, ◌<◌, ◌≤◌}
use native.Mathlib.Nat.{not-suc-le-zero, pow-succ'}
use native.Mathlib.Omega.{arith}
use lib.Dec.{ltb}
use lib.ListN.{length, length-append}
use borrow.Author.Tests.{ltb-true, ltb-false, lt-ltb, le-ltb}
use Rattle.rules.specs.Text.{digit, decimal_by, decimal}

-- any bound above the number gives the same digits
bound_free : (most other n : ℕ) → n < most → n < other → decimal_by most n ≡ decimal_by other n
bound_free zero other n h k = absurd (not-suc-le-zero h)
bound_free (suc most) zero n h k = absurd (not-suc-le-zero k)
bound_free (suc most) (suc other) n h k = go (ltb n 10) refl (bound_free most other (n / 10))
  where
    go : (b : Bool) → ltb n 10 ≡ b → (n / 10 < most → n / 10 < other → decimal_by most (n / 10) ≡ decimal_by other (n / 10))
        → cond b (digit n ∷ []) (decimal_by most (n / 10) ++ digit (n % 10) ∷ []) ≡ cond b (digit n ∷ []) (decimal_by other (n / 10) ++ digit (n % 10) ∷ [])
    go true e rest = refl
    go false e rest =
        let big = ltb-false n 10 e in
        ap (λ (front : List ℕ). front ++ digit (n % 10) ∷ []) (rest (omega (arith, h, big)) (omega (arith, k, big)))

-- a digit alone, or the digits of the tenth and then the last
pub decimal_small : (n : ℕ) → n < 10 → decimal n ≡ digit n ∷ []
unfolding decimal
decimal_small n h = rw (lt-ltb n 10 h) refl

pub decimal_large : (n : ℕ) → 10 ≤ n → decimal n ≡ decimal (n / 10) ++ digit (n % 10) ∷ []
unfolding decimal
decimal_large n h =
    rw (le-ltb n 10 h) (ap (λ (front : List ℕ). front ++ digit (n % 10) ∷ []) (bound_free n (suc (n / 10)) (n / 10) (omega (arith, h)) (omega arith)))

-- a number below 10 to the k has at most k digits, and it has one
pub decimal_length : (k n : ℕ) → n < 10 ^ suc k → length (decimal n) ≤ suc k
decimal_length zero n h = rw (decimal_small n h) (omega arith)
decimal_length (suc k) n h = go (ltb n 10) refl (decimal_length k (n / 10))
  where
    go : (b : Bool) → ltb n 10 ≡ b → (n / 10 < 10 ^ suc k → length (decimal (n / 10)) ≤ suc k) → length (decimal n) ≤ suc (suc k)
    go true e rest = rw (decimal_small n (ltb-true n 10 e)) (omega arith)
    go false e rest =
        rw (decimal_large n (ltb-false n 10 e), length-append (decimal (n / 10)) (digit (n % 10) ∷ []))
        (omega (arith, rest (omega (arith, h, pow-succ' 10 (suc k)))))
