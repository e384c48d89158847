-- Spans, and *tripped*, of a session's measurements with one more, for any protection. All of it follows from specs/Trips alone.
use mathlib.Core.Logic.{◌↔◌, ◌⊎◌, inl, inr}
use mathlib.Core.Bool.{Bool, true, false, not, ◌&&◌, ◌||◌}
use mathlib.Core.List.{List, [], ◌∷◌}
use Prim.Native.Nat.{ℕ, zero, suc, ◌≤◌, ◌<◌, zero-le, suc-le-suc}
use native.Mathlib.Nat.{le_of_suc-le-suc, not-suc-le-zero}
use lib.Dec.{T}
use Rattle.rules.specs.declared.units.Milliseconds.{Milliseconds}
use Rattle.rules.specs.declared.sensors.Reading.{Reading}
use Rattle.rules.specs.Protections.{Protection}
use Rattle.rules.specs.Trips.{Measured, back, passes, Span, length_of, Ended, Tripped}

module _ (test : Reading → Bool) (m : Measured) (taken : List Measured) where
  -- ---- a span that ended before the new measurement is one of the longer list, one place further back
  pub span_up : {first last : ℕ} → Span test taken first last → Span test (m ∷ taken) (suc first) (suc last)
  span_up {first} {last} s = record { order = suc-le-suc s.order; there = suc-le-suc s.there; all = each }
    where
      each : (k : ℕ) → suc last ≤ k → k ≤ suc first → T (passes test (back (m ∷ taken) k))
      each zero from to = absurd (not-suc-le-zero from)
      each (suc k) from to = s.all k (le_of_suc-le-suc from) (le_of_suc-le-suc to)

  pub span_down : {first last : ℕ} → Span test (m ∷ taken) (suc first) (suc last) → Span test taken first last
  span_down s = record {
    order = le_of_suc-le-suc s.order;
    there = le_of_suc-le-suc s.there;
    all = λ k from to. s.all (suc k) (suc-le-suc from) (suc-le-suc to);
  }

  pub ended_up : (d : Milliseconds) (last : ℕ) → Ended test d taken last → Ended test d (m ∷ taken) (suc last)
  ended_up d last e = (suc e.0, span_up e.1, e.2)

  pub ended_down : (d : Milliseconds) (last : ℕ) → Ended test d (m ∷ taken) (suc last) → Ended test d taken last
  ended_down d last e = from e.0 e.1 e.2
    where
      from : (first : ℕ) → Span test (m ∷ taken) first (suc last) → d.0 ≤ (length_of (m ∷ taken) first (suc last)).0 → Ended test d taken last
      from zero s long = absurd (not-suc-le-zero s.order)
      from (suc first) s long = (first, span_down s, long)

  -- ---- a span that ends at the new measurement: that one alone, or joined to a span that ended at the one before
  pub span_one : T (passes test m) → Span test (m ∷ taken) 0 0
  span_one now = record { order = zero-le; there = suc-le-suc zero-le; all = each }
    where
      each : (k : ℕ) → 0 ≤ k → k ≤ 0 → T (passes test (back (m ∷ taken) k))
      each zero from to = now
      each (suc k) from to = absurd (not-suc-le-zero to)

  pub span_more : {first : ℕ} → T (passes test m) → Span test taken first 0 → Span test (m ∷ taken) (suc first) 0
  span_more {first} now s = record { order = zero-le; there = suc-le-suc s.there; all = each }
    where
      each : (k : ℕ) → 0 ≤ k → k ≤ suc first → T (passes test (back (m ∷ taken) k))
      each zero from to = now
      each (suc k) from to = s.all k zero-le (le_of_suc-le-suc to)

  pub span_head : {first : ℕ} → Span test (m ∷ taken) first 0 → T (passes test m)
  span_head s = s.all 0 zero-le zero-le

  pub span_less : {first : ℕ} → Span test (m ∷ taken) (suc first) 0 → Span test taken first 0
  span_less s = record { order = zero-le; there = le_of_suc-le-suc s.there; all = λ k from to. s.all (suc k) zero-le (suc-le-suc to) }

-- ---- a protection after the new measurement
module _ (p : Protection) (m : Measured) (taken : List Measured) where
  -- a beyond span of length at least the hold ends at it
  abbrev pub Trips : Type 0
  Trips = Ended p.beyond p.hold (m ∷ taken) 0

  -- a within span of length at least the release time ends at it
  abbrev pub Releases : Type 0
  Releases = Ended p.within p.release (m ∷ taken) 0

  pub tripped_new : Trips → Tripped p (m ∷ taken)
  tripped_new e = (0, e, λ later h. absurd (not-suc-le-zero h))

  pub tripped_kept : Tripped p taken → ¬ Releases → Tripped p (m ∷ taken)
  tripped_kept t not-now = (suc t.0, ended_up p.beyond m taken p.hold t.0 t.1, none_later)
    where
      none_later : (later : ℕ) → later < suc t.0 → ¬ Ended p.within p.release (m ∷ taken) later
      none_later zero h = not-now
      none_later (suc later) h = λ e. t.2 later (le_of_suc-le-suc h) (ended_down p.within m taken p.release later e)

  pub tripped_cases : Tripped p (m ∷ taken) → Trips ⊎ (Tripped p taken × ¬ Releases)
  tripped_cases t = split t.0 t.1 t.2
    where
      split : (end : ℕ) → Ended p.beyond p.hold (m ∷ taken) end
          → ((later : ℕ) → later < end → ¬ Ended p.within p.release (m ∷ taken) later) → Trips ⊎ (Tripped p taken × ¬ Releases)
      split zero e none_later = inl e
      split (suc end) e none_later = inr (
        (
          end,
          ended_down p.beyond m taken p.hold end e,
          λ later h w. none_later (suc later) (suc-le-suc h) (ended_up p.within m taken p.release later w),
        ),
        none_later 0 (suc-le-suc zero-le),
      )

-- without a measurement nothing is tripped
pub tripped_none : (p : Protection) → T false ↔ Tripped p []
tripped_none p = (λ h. absurd h, λ t. not-suc-le-zero t.1.1.there)

-- The test "trips now, or was tripped and is not released now" decides that statement, where its three parts decide theirs.
pub kept_or_new : (trips releases before : Bool) {Trips Releases Before : Type 0} → T trips ↔ Trips → T releases ↔ Releases → T before ↔ Before
    → T (trips || (not releases && before)) ↔ (Trips ⊎ (Before × ¬ Releases))
kept_or_new true releases before t r b = (λ h. inl (t.0 tt), λ h. tt)
kept_or_new false true before t r b = (λ h. absurd h, λ h. elim h [ inl x ↦ t.1 x | inr x ↦ x.1 (r.0 tt) ])
kept_or_new false false before t r b = (λ h. inr (b.0 h, r.1), λ h. elim h [ inl x ↦ absurd (t.1 x) | inr x ↦ b.1 x.0 ])
