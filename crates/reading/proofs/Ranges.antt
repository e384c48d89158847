-- Every sensor is in its range exactly if the extremes and the current are.
use mathlib.Core.Path.{◌≡◌, refl, sym, subst, ap, ◌∙◌}
use mathlib.Core.Bool.{Bool, true, false, not, cond, ◌&&◌}
use mathlib.Core.List.{List, [], ◌∷◌, ◌++◌, map}
use lib.Dec.{T}
use lib.IntN.{ℤ, pos, neg_ℤ}
use lib.Signed.{lt_z, le_z, lt_z_no}
use Rattle.rules.specs.declared.sensors.Reading.{Reading}
use Rattle.rules.specs.Quantities.{mv, dc, ◌≤mV◌, ◌≤dC◌}
use Rattle.rules.specs.Test.{cell_in_range, current_in_range, temperature_in_range, plausible}
use Rattle.rules.specs.Protections.{picked, other_cells, other_temperatures, extremes}
use Rattle.rules.specs.Lists.{all}
use Rattle.rules.proofs.Order.{at_most_trans, below_at_most}
use Rattle.reading.specs.Ranges.{extremes_in_range}

-- ---- a test that the one picked passes exactly if all do

true_last : (b : Bool) → b ≡ b && true
true_last true = refl
true_last false = refl

from_second : (a b : Bool) → (T b → T a) → b ≡ a && b
from_second true b f = refl
from_second false true f = absurd (f tt)
from_second false false f = refl

from_first : (a b : Bool) → (T a → T b) → a ≡ a && b
from_first true true f = refl
from_first true false f = absurd (f tt)
from_first false b f = refl

module _ {Q : Type 0} (less : Q → Q → Bool) (test : Q → Bool)
    (down : (a b : Q) → T (less a b) → T (test b) → T (test a))
    (up : (a b : Q) → T (not (less a b)) → T (test a) → T (test b)) where
  of_two : (a b : Q) (t : Bool) → less a b ≡ t → test (cond t b a) ≡ test a && test b
  of_two a b true e = from_second (test a) (test b) (down a b (subst T (sym e) tt))
  of_two a b false e = from_first (test a) (test b) (up a b (subst (λ (t : Bool). T (not t)) (sym e) tt))

  of_all : (a : Q) (bs : List Q) → test (picked (λ x y. cond (less x y) y x) a bs) ≡ all (map test (a ∷ bs))
  of_all a [] = true_last (test a)
  of_all a (b ∷ bs) = of_two a (picked (λ x y. cond (less x y) y x) b bs) _ refl ∙ ap (λ (x : Bool). test a && x) (of_all b bs)

-- of figures of any unit: the largest is at most a limit, the smallest at least one
module _ {Q : Type 0} (figure : Q → ℤ) (limit : ℤ) where
  largest : (a : Q) (bs : List Q)
      → le_z (figure (picked (λ x y. cond (lt_z (figure x) (figure y)) y x) a bs)) limit ≡ all (map (λ q. le_z (figure q) limit) (a ∷ bs))
  largest = of_all (λ a b. lt_z (figure a) (figure b)) (λ q. le_z (figure q) limit)
      (λ a b h k. at_most_trans (figure a) (figure b) limit (below_at_most (figure a) (figure b) h) k)
      (λ a b h k. at_most_trans (figure b) (figure a) limit (lt_z_no {a = figure a} {b = figure b} h).le k)

  smallest : (a : Q) (bs : List Q)
      → le_z limit (figure (picked (λ x y. cond (lt_z (figure y) (figure x)) y x) a bs)) ≡ all (map (λ q. le_z limit (figure q)) (a ∷ bs))
  smallest = of_all (λ a b. lt_z (figure b) (figure a)) (λ q. le_z limit (figure q))
      (λ a b h k. at_most_trans limit (figure b) (figure a) k (below_at_most (figure b) (figure a) h))
      (λ a b h k. at_most_trans limit (figure a) (figure b) k (lt_z_no {a = figure b} {b = figure a} h).le)

-- ---- both ends of a range, and the three kinds of sensors

swapped : (a b c d : Bool) → (a && b) && (c && d) ≡ (a && c) && (b && d)
swapped true true c d = refl
swapped true false true d = refl
swapped true false false d = refl
swapped false b c d = refl

both : {Q : Type 0} (low high : Q → Bool) (qs : List Q)
    → all (map low qs) && all (map high qs) ≡ all (map (λ q. low q && high q) qs)
both low high [] = refl
both low high (q ∷ qs) =
    swapped (low q) (all (map low qs)) (high q) (all (map high qs)) ∙ ap (λ (x : Bool). (low q && high q) && x) (both low high qs)

joined : (xs ys : List Bool) → all xs && all ys ≡ all (xs ++ ys)
joined [] ys = refl
joined (true ∷ xs) ys = joined xs ys
joined (false ∷ xs) ys = refl

pub plausible_by_extremes : (r : Reading) → extremes_in_range (extremes r) r.current ≡ plausible r
unfolding plausible extremes
plausible_by_extremes r =
    rw (
      smallest (λ v. pos v.0) (pos 500) r.cell0 (other_cells r),
      largest (λ v. pos v.0) (pos 5_000) r.cell0 (other_cells r),
      smallest (λ t. t.0) (neg_ℤ (pos 540)) r.temperature0 (other_temperatures r),
      largest (λ t. t.0) (pos 880) r.temperature0 (other_temperatures r),
      both (λ v. mv 500 ≤mV v) (λ v. v ≤mV mv 5_000) (r.cell0 ∷ other_cells r),
      both (λ t. dc (neg_ℤ (pos 540)) ≤dC t) (λ t. t ≤dC dc (pos 880)) (r.temperature0 ∷ other_temperatures r),
    )
    (joined (map cell_in_range (r.cell0 ∷ other_cells r)) (current_in_range r.current ∷ map temperature_in_range (r.temperature0 ∷ other_temperatures r)))
