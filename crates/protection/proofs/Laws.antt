-- The bounds that the tests' sums need, and all eight rows.
use mathlib.Core.Path.{◌≡◌, refl, sym, ap, ◌∙◌}
use mathlib.Core.Bool.{Bool, true, false, cond, ◌&&◌}
use mathlib.Core.List.{List, [], ◌∷◌}
use Prim.Native.Nat.{ℕ, suc, ◌+◌, ◌*◌, ◌^◌, ◌%◌, ◌<◌, ◌≤◌, ◌-◌}
use native.Mathlib.Nat.{pow-le-pow_right}
use native.Mathlib.Omega.{arith}
use borrow.Author.Tests.{leb-true, le-leb, le-ltb}
use lib.Dec.{ltb}
use lib.IntN.{ℤ, pos, negsuc, nat_abs, ◌+ℤ◌}
use Rattle.std.proofs.Common.{is_lt, is_le, int_cmp}
use Rattle.std.proofs.lemmas.Int.{ints}
use lib.Signed.{mag, lt_z, le_z}
use mir.Syntax.{w8}
use mir.Val.{Fits}
use mir.Facts.{Fits-le, Fits-lit}
use Rattle.rules.specs.declared.units.DeciCelsius.{DeciCelsius}
use Rattle.rules.specs.declared.units.Milliamperes.{Milliamperes}
use Rattle.rules.specs.declared.units.Millivolts.{Millivolts}
use Rattle.rules.specs.declared.sensors.Reading.{Reading}
use Rattle.rules.specs.declared.sensors.Extremes.{Extremes}
use Rattle.rules.specs.Quantities.{mv, ma, dc, ◌<mV◌, ◌≤mV◌, ◌<mA◌, ◌≤mA◌, ◌<dC◌, ◌≤dC◌, sum, negated, charge_rating, discharge_rating}
use Rattle.rules.specs.Protections.{row_of, permitted_at, permitted, extremes, mask_below}
use Rattle.rules.proofs.Bits.{mask_below_lem}
use Rattle.permitted.specs.Bound.{charge_bound}
use Rattle.permitted.proofs.Laws.{permitted_small}
use Rattle.protection.specs.declared.Side.{Side}
use Rattle.protection.specs.Rows.{sides_of}

-- ---- the order of figures below 0 too

pub int_below : (a b : ℤ) → is_lt (int_cmp a b) ≡ lt_z a b
int_below a b = grind (arith, ints)

pub int_at_most : (a b : ℤ) → is_le (int_cmp a b) ≡ le_z a b
int_at_most a b = grind (arith, ints)

-- ---- what a current is held against as a charge

by_current : (b : Bool) (l : Milliamperes) → mag l.0 ≤ 90_000 → mag (cond b (ma (pos 0)) l).0 ≤ 90_000
by_current true l small = omega arith
by_current false l small = small

pub bound_small : (battery : ℕ) (coldest : DeciCelsius) (i l : Milliamperes) → l ≡ charge_bound (permitted battery coldest) i → mag l.0 ≤ 90_000
bound_small battery coldest i l l-is = rw l-is (by_current (i ≤mA ma (pos 0)) (permitted battery coldest) (permitted_small battery coldest))

abbrev charge_side : Milliamperes → Milliamperes → Side
charge_side l i = record { beyond = sum l (ma (pos 2_000)) <mA i; within = i ≤mA l }

-- a current of at most 0 is within any limit from 0 on, and not beyond
at_most_0 : (l : ℕ) (i : ℤ) → le_z i (pos 0) ≡ true → charge_side (ma (pos l)) (ma i) ≡ record { beyond = false; within = true }
at_most_0 l (pos n) e =
    let none : n ≤ 0 = leb-true n 0 e in
    rw (le-ltb (l + 2_000) n (omega arith), le-leb n l (omega arith))
at_most_0 l (negsuc n) e = refl

same_side : (l : ℕ) (i : Milliamperes) → charge_side (charge_bound (ma (pos l)) i) i ≡ charge_side (ma (pos l)) i
same_side l i = by_test (i ≤mA ma (pos 0)) refl
  where
    by_test : (b : Bool) → (i ≤mA ma (pos 0)) ≡ b → charge_side (cond b (ma (pos 0)) (ma (pos l))) i ≡ charge_side (ma (pos l)) i
    by_test true e = at_most_0 0 i.0 e ∙ sym (at_most_0 l i.0 e)
    by_test false e = refl

pub charge_side_lem : (battery : ℕ) (coldest : DeciCelsius) (i : Milliamperes)
    → charge_side (charge_bound (permitted battery coldest) i) i ≡ charge_side (permitted battery coldest) i
unfolding permitted
charge_side_lem battery coldest i = same_side (permitted_at (nat_abs (charge_rating battery).0) coldest.0) i

-- ---- numbers that fit

sub_mag : (b : Bool) (k n : ℕ) → mag (cond b (negsuc (suc n - suc k)) (pos (k - suc n))) ≤ n + k
sub_mag true k n = omega arith
sub_mag false k n = omega arith

sum_mag : (z : ℤ) (k : ℕ) → mag (z +ℤ pos k) ≤ mag z + k
sum_mag (pos n) k = omega arith
sum_mag (negsuc n) k = sub_mag (ltb k (suc n)) k n

-- ---- all eight, from the extremes and the limits

abbrev sides_by : Reading → Extremes → Side → Milliamperes → Millivolts → List Side
sides_by r e charge d v =
    record { beyond = mv 3_650 <mV e.highest; within = e.highest ≤mV mv 3_500 }
    ∷ record { beyond = e.lowest <mV mv 1_700; within = mv 2_800 ≤mV e.lowest }
    ∷ record { beyond = dc (pos 710) <dC e.hottest; within = e.hottest ≤dC dc (pos 600) }
    ∷ record { beyond = (e.coldest <dC dc (pos 0)) && (ma (pos 500) <mA r.current); within = dc (pos 50) ≤dC e.coldest }
    ∷ charge
    ∷ record { beyond = r.current <mA negated (ma (pos 1_100_000)); within = d ≤mA r.current }
    ∷ record { beyond = r.current <mA d; within = d ≤mA r.current }
    ∷ record { beyond = mv 500 <mV v; within = v ≤mV mv 300 }
    ∷ []

module _ (battery : ℕ) (r : Reading) (e : Extremes) (e-is : e ≡ extremes r) (v : Millivolts) (v-is : v ≡ mv (e.highest.0 - e.lowest.0)) where
  pub sides_are : (l d : Milliamperes) → l ≡ charge_bound (permitted battery e.coldest) r.current → d ≡ negated (discharge_rating battery)
      → sides_by r e (charge_side l r.current) d v ≡ sides_of battery r
  unfolding sides_of row_of
  sides_are l d l-is d-is =
      let side = charge_side (permitted battery e.coldest) r.current in
      let held : charge_side l r.current ≡ side =
      ap (λ (x : Milliamperes). charge_side x r.current) l-is ∙ charge_side_lem battery e.coldest r.current in
      ap (λ (x : Side). sides_by r e x d v) held
      ∙ ap (λ (x : Millivolts). sides_by r e side d x) v-is
      ∙ ap (λ (x : Milliamperes). sides_by r e side x (mv (e.highest.0 - e.lowest.0))) d-is
      ∙ ap (λ (x : Extremes). sides_by r x (charge_side (permitted battery x.coldest) r.current) (negated (discharge_rating battery))
      (mv (x.highest.0 - x.lowest.0))) e-is

-- ---- the mask of those below one of the eight has room for its bit

pub room : (test : ℕ → Bool) (mask n : ℕ) → n < 8 → mask ≡ mask_below test n → Fits w8 (mask + 1 * 2 ^ n % 256)
room test mask n h e =
    let at_most : n ≤ 7 = omega arith in
    let weight : 2 ^ n ≤ 2 ^ 7 = pow-le-pow_right {n = 2} (omega arith) at_most in
    Fits-le {n = 255} (omega (arith, weight, e, mask_below_lem test n)) (Fits-lit tt)
