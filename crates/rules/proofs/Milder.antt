-- One list of measurements milder than another, frame by frame: the highest cell no higher, the current no lower. What the milder one
-- trips the other trips too, for a protection that looks at these alone; and the milder one charges no less and discharges no more.
use mathlib.Core.Path.{◌≡◌, sym, subst}
use mathlib.Core.Logic.Iff
use mathlib.Core.Logic.{inl, inr}
use mathlib.Core.Bool.{Bool, true, false, cond, ◌&&◌}
use mathlib.Core.List
use mathlib.Core.List.{List, ◌∷◌, Forall₂}
use Prim.Native.Nat.{ℕ, ◌+◌, ◌-◌, ◌*◌, ◌/◌, ◌≤◌, zero-le, suc-le-suc}
use native.Mathlib.Nat.{mul-le-mul_right, add-le-add}
use native.Mathlib.Omega.{arith}
use lib.Dec.{T, leb→le}
use lib.IntN.{ℤ, pos, negsuc, ◌+ℤ◌}
use lib.Signed.{le_z}
use Rattle.rules.specs.declared.units.Milliamperes.{Milliamperes}
use Rattle.rules.specs.declared.units.Milliseconds.{Milliseconds}
use Rattle.rules.specs.declared.sensors.Reading.{Reading}
use Rattle.rules.specs.Quantities.{◌≤ms◌, elapsed}
use Rattle.rules.specs.Test.{plausible}
use Rattle.rules.specs.Protections.{Protection, highest}
use Rattle.rules.specs.Trips.{Measured, time, passes, reaches, ends_now, is_tripped}
use Rattle.rules.specs.Accounts.{flow, halved, positive_part, negative_part, increment}
use Rattle.rules.proofs.Spans.{kept_or_new}
use Rattle.rules.proofs.Decide.{and_or}
use Rattle.rules.proofs.Flow.{positive_flow, negative_flow, positive_sum, negative_sum}
use Rattle.rules.proofs.Sessions.{total}

pub record MilderReading (r q : Reading) : Type 0 where
  pub alike : plausible r ≡ plausible q
  pub cells : T (plausible r) → (highest r).0 ≤ (highest q).0
  pub current : T (plausible r) → T (le_z q.current.0 r.current.0)

-- the two lists' times count from starts of their own
pub record Milder (start begin : ℕ) (m n : Measured) : Type 0 where
  pub times : start + time m ≡ begin + time n
  pub readings : MilderReading m.reading n.reading

-- a protection that trips more readily, and is within less readily, at a higher cell and a lower current
abbrev pub Follows : Protection → Type 0
Follows p =
    (r q : Reading) → (highest r).0 ≤ (highest q).0 → T (le_z q.current.0 r.current.0)
    → (T (p.beyond r) → T (p.beyond q)) × (T (p.within q) → T (p.within r))

flipped : {A B : Type 0} {R : A → B → Type 0} {xs : List A} {ys : List B} → Forall₂ R xs ys → Forall₂ (λ y x. R x y) ys xs
flipped List.Forall₂.nil = List.Forall₂.nil
flipped (List.Forall₂.cons x xs) = List.Forall₂.cons x (flipped xs)

weakened : {A B : Type 0} {R S : A → B → Type 0} {xs : List A} {ys : List B} → ((x : A) (y : B) → R x y → S x y) → Forall₂ R xs ys → Forall₂ S xs ys
weakened f List.Forall₂.nil = List.Forall₂.nil
weakened f (List.Forall₂.cons {a = x} {b = y} r rs) = List.Forall₂.cons (f x y r) (weakened f rs)

-- ---- a span that ends at the newest measurement
module _ (test : Reading → Bool) (start begin : ℕ) where
  abbrev Carries : Measured → Measured → Type 0
  Carries m n = (start + time m ≡ begin + time n) × (T (passes test m) → T (passes test n))

  reaches_carried : {ms ns : List Measured} (d t u : Milliseconds) → start + t.0 ≡ begin + u.0 → Forall₂ Carries ms ns → T (reaches test d t ms) → T (reaches test d u ns)
  reaches_carried d t u e List.Forall₂.nil h = h
  reaches_carried d t u e (List.Forall₂.cons {a = m} {b = n} {l₁ = ms} {l₂ = ns} c cs) h =
      let same : u.0 - time n ≡ t.0 - time m = omega (arith, e, c.0) in
      let rest : T (reaches test d t ms) → T (reaches test d u ns) = reaches_carried d t u e cs in
      let held = (and_or (passes test m) (d ≤ms elapsed m.at t) (reaches test d t ms) Iff.rfl).0 h in
      (and_or (passes test n) (d ≤ms elapsed n.at u) (reaches test d u ns) Iff.rfl).1
      (c.1 held.0, elim held.1 [ inl x ↦ inl (rw same x) | inr x ↦ inr (rest x) ])

  ends_carried : {ms ns : List Measured} (d : Milliseconds) → Forall₂ Carries ms ns → T (ends_now test d ms) → T (ends_now test d ns)
  ends_carried d List.Forall₂.nil h = h
  ends_carried d (List.Forall₂.cons {a = m} {b = n} c cs) h = reaches_carried d m.at n.at c.0 (List.Forall₂.cons c cs) h

-- ---- tripped
both : (a b c d : Bool) → a ≡ c → (T a → T b → T d) → T (a && b) → T (c && d)
both true b c d e f h = subst (λ (x : Bool). T (x && d)) e (f tt h)
both false b c d e f h = absurd h

module _ (p : Protection) (follows : Follows p) (start begin : ℕ) where
  beyond_carried : (m n : Measured) → Milder start begin m n → Carries p.beyond start begin m n
  beyond_carried m n x = (
    x.times,
    both _ _ _ _ x.readings.alike (λ ok. (follows m.reading n.reading (x.readings.cells ok) (x.readings.current ok)).0),
  )

  within_carried : (n m : Measured) → Milder start begin m n → Carries p.within begin start n m
  within_carried n m x = (
    sym x.times,
    both _ _ _ _ (sym x.readings.alike)
        (λ ok. let ok' : T (plausible m.reading) = rw x.readings.alike ok in
        (follows m.reading n.reading (x.readings.cells ok') (x.readings.current ok')).1),
  )

  pub tripped_milder : {ms ns : List Measured} → Forall₂ (Milder start begin) ms ns → T (is_tripped p ms) → T (is_tripped p ns)
  tripped_milder List.Forall₂.nil h = h
  tripped_milder (List.Forall₂.cons {a = m} {b = n} {l₁ = ms} {l₂ = ns} x xs) h =
      let all : Forall₂ (Milder start begin) (m ∷ ms) (n ∷ ns) = List.Forall₂.cons x xs in
      let trips = ends_carried p.beyond start begin p.hold (weakened beyond_carried all) in
      let releases = ends_carried p.within begin start p.release (weakened within_carried (flipped all)) in
      let before : T (is_tripped p ms) → T (is_tripped p ns) = tripped_milder xs in
      let held =
      (kept_or_new (ends_now p.beyond p.hold (m ∷ ms)) (ends_now p.within p.release (m ∷ ms)) (is_tripped p ms) Iff.rfl Iff.rfl Iff.rfl).0 h
      in
      (kept_or_new (ends_now p.beyond p.hold (n ∷ ns)) (ends_now p.within p.release (n ∷ ns)) (is_tripped p ns) Iff.rfl Iff.rfl Iff.rfl).1
      (elim held [ inl y ↦ inl (trips y) | inr y ↦ inr (before y.0, λ w. y.1 (releases w)) ])

-- ---- an account
positive_le : (j i : ℤ) → T (le_z j i) → positive_part j ≤ positive_part i
positive_le (pos j) (pos i) h = leb→le j i h
positive_le (pos j) (negsuc i) h = absurd h
positive_le (negsuc j) i h = zero-le

negative_le : (j i : ℤ) → T (le_z j i) → negative_part i ≤ negative_part j
negative_le (pos j) i h = negative_le_pos i h
  where
    negative_le_pos : (i : ℤ) → T (le_z (pos j) i) → negative_part i ≤ 0
    negative_le_pos (pos i) h = zero-le
    negative_le_pos (negsuc i) h = absurd h
negative_le (negsuc j) (pos i) h = zero-le
negative_le (negsuc j) (negsuc i) h = suc-le-suc (leb→le i j h)

half_le : {a b : ℕ} (t : ℕ) → a ≤ b → a * t / 2 ≤ b * t / 2
half_le t h = omega (arith, mul-le-mul_right t h)

-- two neighbours of no higher currents charge no more, and discharge no less
module _ (j k i h : Milliamperes) (t : Milliseconds) (first : T (le_z j.0 i.0)) (second : T (le_z k.0 h.0)) where
  pair_milder : (positive_part (halved (flow j k t)) ≤ positive_part (halved (flow i h t)))
      × (negative_part (halved (flow i h t)) ≤ negative_part (halved (flow j k t)))
  pair_milder =
      let low = j.0 +ℤ k.0 in
      let high = i.0 +ℤ h.0 in
      let charged : positive_part low ≤ positive_part high = omega (arith, above, below, positive_sum j.0 k.0, positive_sum i.0 h.0) in
      let discharged : negative_part high ≤ negative_part low = omega (arith, above, below, negative_sum j.0 k.0, negative_sum i.0 h.0) in
      rw (positive_flow low t.0, positive_flow high t.0, negative_flow low t.0, negative_flow high t.0)
      (half_le t.0 charged, half_le t.0 discharged)
    where
      above : (positive_part j.0 ≤ positive_part i.0) × (positive_part k.0 ≤ positive_part h.0)
      above = (positive_le j.0 i.0 first, positive_le k.0 h.0 second)

      below : (negative_part i.0 ≤ negative_part j.0) × (negative_part h.0 ≤ negative_part k.0)
      below = (negative_le j.0 i.0 first, negative_le k.0 h.0 second)

if_both : (a b : Bool) {w x y z : ℕ} → (T a → T b → (w ≤ x) × (y ≤ z))
    → (cond (a && b) w 0 ≤ cond (a && b) x 0) × (cond (a && b) y 0 ≤ cond (a && b) z 0)
if_both true true f = f tt tt
if_both true false f = (zero-le, zero-le)
if_both false b f = (zero-le, zero-le)

module _ (start begin : ℕ) where
  increment_milder : {before past : List Measured} → Forall₂ (Milder start begin) before past → (m n : Measured) → Milder start begin m n
      → ((increment positive_part past n).0 ≤ (increment positive_part before m).0) × ((increment negative_part before m).0 ≤ (increment negative_part past n).0)
  increment_milder List.Forall₂.nil m n x = (zero-le, zero-le)
  increment_milder (List.Forall₂.cons {a = e} {b = f} y ys) m n x =
      let same : time n - time f ≡ time m - time e = omega (arith, x.times, y.times) in
      rw (← x.readings.alike, ← y.readings.alike, same)
      (if_both (plausible e.reading) (plausible m.reading)
      (λ first second.
      pair_milder f.reading.current n.reading.current e.reading.current m.reading.current (elapsed e.at m.at)
      (y.readings.current first) (x.readings.current second)))

  pub total_milder : {before past ms ns : List Measured} → Forall₂ (Milder start begin) before past → Forall₂ (Milder start begin) ms ns
      → (total positive_part past ns ≤ total positive_part before ms) × (total negative_part before ms ≤ total negative_part past ns)
  total_milder b List.Forall₂.nil = (zero-le, zero-le)
  total_milder b (List.Forall₂.cons {a = m} {b = n} x xs) =
      let now = increment_milder b m n x in
      let later = total_milder (List.Forall₂.cons x b) xs in
      (add-le-add now.0 later.0, add-le-add now.1 later.1)
