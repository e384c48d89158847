-- Highest and lowest cell, hottest and coldest: each is one of the values, and none is higher (lower, hotter, colder).
use mathlib.Core.Path.{◌≡◌, refl, sym, subst}
use mathlib.Core.Bool.{Bool, true, false, cond}
use mathlib.Core.List.Memᴰ
use mathlib.Core.List.{List, [], ◌∷◌, Memᴰ}
use native.Mathlib.Omega.{arith}
use lib.Dec.{T, not_T, ltb→lt}
use lib.IntN.{ℤ, pos, negsuc}
use lib.Signed.{lt_z, lt_z_yes, lt_z_no, <ℤ-≤ℤ_trans}
use Rattle.rules.specs.declared.sensors.Reading.{Reading}
use Rattle.rules.specs.Quantities.{◌<mV◌, ◌<dC◌}
use Rattle.rules.specs.Protections.{picked, other_cells, other_temperatures, extremes, highest, lowest, hottest, coldest}

-- `best` is one of the values, and is `less` than none of them
pub record Extreme {Q : Type 0} (less : Q → Q → Bool) (values : List Q) (best : Q) : Type 0 where
  pub present : Memᴰ best values
  pub none_past : {v : Q} → Memᴰ v values → T (less best v) → ⊥

-- ---- picking two at a time, by any order
record Order {Q : Type 0} (less : Q → Q → Bool) : Type 0 where
  asym : (a b : Q) → T (less a b) → T (less b a) → ⊥
  -- a below c, and b not, puts a below b
  between : (a b c : Q) → T (less a c) → (T (less b c) → ⊥) → T (less a b)

module _ {Q : Type 0} (less : Q → Q → Bool) (order : Order less) where
  one_more : (a best : Q) (values : List Q) → Extreme less values best → (t : Bool) → less a best ≡ t → Extreme less (a ∷ values) (cond t best a)
  one_more a best values x true e = record { present = Memᴰ.tail x.present; none_past = past }
    where
      past : {v : Q} → Memᴰ v (a ∷ values) → T (less best v) → ⊥
      past (Memᴰ.head is) h = order.asym a best (subst T (sym e) tt) (subst (λ (q : Q). T (less best q)) is h)
      past (Memᴰ.tail m) h = x.none_past m h
  one_more a best values x false e = record { present = Memᴰ.head refl; none_past = past }
    where
      past : {v : Q} → Memᴰ v (a ∷ values) → T (less a v) → ⊥
      past (Memᴰ.head is) h = let self : T (less a a) = subst (λ (q : Q). T (less a q)) is h in order.asym a a self self
      past {v} (Memᴰ.tail m) h = subst T e (order.between a best v h (x.none_past m))

  picked_is : (a : Q) (bs : List Q) → Extreme less (a ∷ bs) (picked (λ x y. cond (less x y) y x) a bs)
  picked_is a [] = record { present = Memᴰ.head refl; none_past = past }
    where
      past : {v : Q} → Memᴰ v (a ∷ []) → T (less a v) → ⊥
      past m h = let self : T (less a a) = rw (Memᴰ.eq_of_singleton m) at h in order.asym a a self self
  picked_is a (b ∷ bs) = one_more a (picked (λ x y. cond (less x y) y x) b bs) (b ∷ bs) (picked_is b bs) _ refl

  -- the same order from above
  turned : Order (λ a b. less b a)
  turned = record { asym = λ a b h k. order.asym b a h k; between = λ a b c h n. decide a b c h n (less b a) refl }
    where
      decide : (a b c : Q) → T (less c a) → (T (less c b) → ⊥) → (t : Bool) → less b a ≡ t → T t
      decide a b c h n true e = tt
      decide a b c h n false e = n (order.between c b a h (λ k. subst T e k))

-- ---- the order of figures, of any unit
figures : Order lt_z
figures = record { asym = asym; between = between }
  where
    asym : (a b : ℤ) → T (lt_z a b) → T (lt_z b a) → ⊥
    asym (pos a) (pos b) h k = omega (arith, ltb→lt a b h, ltb→lt b a k)
    asym (pos a) (negsuc b) h k = h
    asym (negsuc a) (pos b) h k = k
    asym (negsuc a) (negsuc b) h k = omega (arith, ltb→lt b a h, ltb→lt a b k)

    between : (a b c : ℤ) → T (lt_z a c) → (T (lt_z b c) → ⊥) → T (lt_z a b)
    between a b c h n = (<ℤ-≤ℤ_trans (lt_z_yes {a = a} {b = c} h) (lt_z_no {a = b} {b = c} (not_T (lt_z b c) n))).lt

of_figure : {Q : Type 0} (figure : Q → ℤ) → Order (λ a b. lt_z (figure a) (figure b))
of_figure figure = record {
  asym = λ a b. figures.asym (figure a) (figure b);
  between = λ a b c. figures.between (figure a) (figure b) (figure c);
}

millivolts : Order ◌<mV◌
millivolts = of_figure (λ v. pos v.0)

temperatures : Order ◌<dC◌
temperatures = of_figure (λ t. t.0)

module _ (r : Reading) where
  pub highest_is : Extreme ◌<mV◌ (r.cell0 ∷ other_cells r) (highest r)
  unfolding extremes
  highest_is = picked_is ◌<mV◌ millivolts r.cell0 (other_cells r)

  pub lowest_is : Extreme (λ a b. b <mV a) (r.cell0 ∷ other_cells r) (lowest r)
  unfolding extremes
  lowest_is = picked_is (λ a b. b <mV a) (turned ◌<mV◌ millivolts) r.cell0 (other_cells r)

  pub hottest_is : Extreme ◌<dC◌ (r.temperature0 ∷ other_temperatures r) (hottest r)
  unfolding extremes
  hottest_is = picked_is ◌<dC◌ temperatures r.temperature0 (other_temperatures r)

  pub coldest_is : Extreme (λ a b. b <dC a) (r.temperature0 ∷ other_temperatures r) (coldest r)
  unfolding extremes
  coldest_is = picked_is (λ a b. b <dC a) (turned ◌<dC◌ temperatures) r.temperature0 (other_temperatures r)
