-- Tests and what they decide: laws of Bool that the other files cite.
use mathlib.Core.Path.{◌≡◌, refl, sym, subst}
use mathlib.Core.Logic.{◌↔◌}
use mathlib.Core.Bool.{Bool, true, false, not, ◌&&◌, ◌||◌}
use lib.Dec.{T}

pub both : (a b : Bool) {A B : Type 0} → T a ↔ A → T b ↔ B → T (a && b) ↔ (A × B)
both true b x y = (λ h. (x.0 tt, y.0 h), λ p. y.1 p.1)
both false b x y = (λ h. absurd h, λ p. x.1 p.0)

pub and_iff : (a b : Bool) → T (a && b) ↔ (T a × T b)
and_iff a b = both a b (λ h. h, λ h. h) (λ h. h, λ h. h)

pub is_true : (b : Bool) → T b ↔ (b ≡ true)
is_true true = (λ h. refl, λ e. tt)
is_true false = (λ h. absurd h, λ e. subst T (sym e) tt)

-- the two tests of one that is passed
pub and_true : (a b : Bool) → (a && b) ≡ true → (a ≡ true) × (b ≡ true)
and_true true b e = (refl, e)
and_true false b e = absurd (subst T (sym e) tt)

-- a clear one, or one that passes two tests
pub unless : (a b c : Bool) → T (not a || (b && c)) ↔ (T a → T b × T c)
unless false b c = (λ h q. absurd q, λ p. tt)
unless true b c = (λ h q. (and_iff b c).0 h, λ p. (and_iff b c).1 (p tt))

-- tests that decide the same are the same
pub same_test : (a b : Bool) {A : Type 0} → T a ↔ A → T b ↔ A → a ≡ b
same_test true true x y = refl
same_test false false x y = refl
same_test true false x y = absurd (y.1 (x.0 tt))
same_test false true x y = absurd (x.1 (y.0 tt))
