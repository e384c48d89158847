-- The test `is_tripped` decides *tripped*, for any protection.
use mathlib.Core.Logic.{◌↔◌, ◌⊎◌, inl, inr}
use mathlib.Core.Bool.{Bool, true, false, ◌&&◌, ◌||◌}
use mathlib.Core.List.{List, [], ◌∷◌}
use Prim.Native.Nat.{ℕ, zero, suc, ◌≤◌}
use native.Mathlib.Nat.{not-suc-le-zero}
use lib.Dec.{T, leb→le, le→leb}
use Rattle.rules.specs.declared.units.Milliseconds.{Milliseconds}
use Rattle.rules.specs.declared.sensors.Reading.{Reading}
use Rattle.rules.specs.Quantities.{◌≤ms◌, elapsed}
use Rattle.rules.specs.Protections.{Protection}
use Rattle.rules.specs.Trips.{Measured, back, passes, Span, Tripped, reaches, ends_now, is_tripped}
use Rattle.rules.proofs.Spans.{span_one, span_more, span_head, span_less, Trips, Releases, tripped_new, tripped_kept, tripped_cases, tripped_none, kept_or_new}

-- a span from a measurement at least d before the time t to the newest
abbrev Reaches : (Reading → Bool) → Milliseconds → Milliseconds → List Measured → Type 0
Reaches test d t taken = (first : ℕ) × Span test taken first 0 × (d.0 ≤ (elapsed (back taken first).at t).0)

module _ (test : Reading → Bool) (d t : Milliseconds) (m : Measured) (taken : List Measured) where
  -- the newest passes, and it is that measurement itself, or the list without it has such a span
  abbrev Splits : Type 0
  Splits = T (passes test m) × (T (d ≤ms elapsed m.at t) ⊎ Reaches test d t taken)

  joined : Splits → Reaches test d t (m ∷ taken)
  joined (now, inl long) = (0, span_one test m taken now, leb→le _ _ long)
  joined (now, inr e) = (suc e.0, span_more test m taken now e.1, e.2)

  split : (first : ℕ) → Span test (m ∷ taken) first 0 → d.0 ≤ (elapsed (back (m ∷ taken) first).at t).0 → Splits
  split zero s long = (span_head test m taken s, inl (le→leb _ _ long))
  split (suc first) s long = (span_head test m taken s, inr (first, span_less test m taken s, long))

pub and_or : (a b c : Bool) {C : Type 0} → T c ↔ C → T (a && (b || c)) ↔ (T a × (T b ⊎ C))
and_or true true c e = (λ h. (tt, inl tt), λ h. tt)
and_or true false c e = (λ h. (tt, inr (e.0 h)), λ h. elim h.1 [ inl x ↦ absurd x | inr x ↦ e.1 x ])
and_or false b c e = (λ h. absurd h, λ h. h.0)

reaches_is : (test : Reading → Bool) (d t : Milliseconds) (taken : List Measured) → T (reaches test d t taken) ↔ Reaches test d t taken
reaches_is test d t [] = (λ h. absurd h, λ e. not-suc-le-zero e.1.there)
reaches_is test d t (m ∷ taken) =
    let both = and_or (passes test m) (d ≤ms elapsed m.at t) (reaches test d t taken) (reaches_is test d t taken) in
    (λ h. joined test d t m taken (both.0 h), λ e. both.1 (split test d t m taken e.0 e.1 e.2))

pub is_tripped_lem : (p : Protection) (taken : List Measured) → T (is_tripped p taken) ↔ Tripped p taken
is_tripped_lem p [] = tripped_none p
is_tripped_lem p (m ∷ taken) =
    let both = kept_or_new (ends_now p.beyond p.hold (m ∷ taken)) (ends_now p.within p.release (m ∷ taken)) (is_tripped p taken)
    (reaches_is p.beyond p.hold m.at (m ∷ taken)) (reaches_is p.within p.release m.at (m ∷ taken)) (is_tripped_lem p taken) in
    (λ h. either (both.0 h), λ t. both.1 (tripped_cases p m taken t))
  where
    either : Trips p m taken ⊎ (Tripped p taken × ¬ Releases p m taken) → Tripped p (m ∷ taken)
    either (inl e) = tripped_new p m taken e
    either (inr (before, not-now)) = tripped_kept p m taken before not-now
