-- The tracker of spans is right, for any protection whose beyond and within exclude each other: what is kept of a protection from one
-- measurement to the next is what the rules say of the session's measurements.
use mathlib.Core.Path.{◌≡◌, refl, sym, ap, subst, ◌∙◌}
use mathlib.Core.Bool.{Bool, true, false, not, ◌&&◌, ◌||◌}
use mathlib.Core.List.{List, [], ◌∷◌}
use mathlib.Core.Option.{Option, none, some}
use Prim.Native.Nat.{ℕ, ◌-◌, ◌≤◌}
use native.Mathlib.Omega.{arith}
use lib.Dec.{T, leb, leb→le, le→leb}
use Rattle.rules.specs.declared.units.Milliseconds.{Milliseconds}
use Rattle.rules.specs.declared.sensors.Reading.{Reading}
use Rattle.rules.specs.Quantities.{◌≤ms◌, elapsed}
use Rattle.rules.specs.Soundness.{StartedBy}
use Rattle.rules.specs.Test.{plausible}
use Rattle.rules.specs.Protections.{Protection}
use Rattle.rules.specs.Trips.{Measured, time, passes, reaches, ends_now, is_tripped}
use Rattle.rules.proofs.Bools.{and_iff}
use Rattle.rules.specs.Shown.{Span, Idle, Beyond, Within, ProtectionState, clear_state}
use Rattle.step.specs.Track.{span_at, tripped_at, tracked, track_one}

-- ---- the times of measurements, newest first

-- none is later than a bound
abbrev pub AllBy : ℕ → List Measured → Type 0
AllBy bound [] = Unit {0}
AllBy bound (m ∷ taken) = (time m ≤ bound) × AllBy bound taken

-- none is later than the one after it
abbrev pub Ordered : List Measured → Type 0
Ordered [] = Unit {0}
Ordered (m ∷ taken) = AllBy (time m) taken × Ordered taken

pub all_by_later : (a b : ℕ) → a ≤ b → (taken : List Measured) → AllBy a taken → AllBy b taken
all_by_later a b h [] k = tt
all_by_later a b h (m ∷ taken) k = (omega (arith, k.0), all_by_later a b h taken k.1)

-- ---- where the longest span that ends at the newest measurement began

abbrev begun : Bool → ℕ → Option ℕ → Option ℕ
begun true t none = some t
begun true t (some u) = some u
begun false t s = none

abbrev start_of : (Reading → Bool) → List Measured → Option ℕ
start_of test [] = none
start_of test (m ∷ taken) = begun (passes test m) (time m) (start_of test taken)

abbrev reached : ℕ → ℕ → Option ℕ → Bool
reached d t none = false
reached d t (some u) = leb d (t - u)

-- it began by any bound that no measurement passes
abbrev StartBy : ℕ → Option ℕ → Type 0
StartBy bound none = Unit {0}
StartBy bound (some u) = u ≤ bound

begun_by : (bound : ℕ) (good : Bool) (t : ℕ) (s : Option ℕ) → t ≤ bound → StartBy bound s → StartBy bound (begun good t s)
begun_by bound true t none h k = h
begun_by bound true t (some u) h k = k
begun_by bound false t s h k = tt

start_by : (test : Reading → Bool) (bound : ℕ) (taken : List Measured) → AllBy bound taken → StartBy bound (start_of test taken)
start_by test bound [] h = tt
start_by test bound (m ∷ taken) h =
    begun_by bound (passes test m) (time m) (start_of test taken) h.0 (start_by test bound taken h.1)

-- the longest span is the one to ask
longer : (d t a u : ℕ) → u ≤ a → (leb d (t - a) || leb d (t - u)) ≡ leb d (t - u)
longer d t a u h = go (leb d (t - a)) refl (leb d (t - u)) refl
  where
    go : (x : Bool) → leb d (t - a) ≡ x → (y : Bool) → leb d (t - u) ≡ y → (x || y) ≡ y
    go false p y q = refl
    go true p true q = refl
    go true p false q =
        absurd (subst T q (le→leb d (t - u) (omega (arith, leb→le d (t - a) (subst T (sym p) tt)))))

one_more : (d t a : ℕ) (good : Bool) (s : Option ℕ) → StartBy a s → (good && (leb d (t - a) || reached d t s)) ≡ reached d t (begun good a s)
one_more d t a false s h = refl
one_more d t a true none h = go (leb d (t - a))
  where
    go : (x : Bool) → (x || false) ≡ x
    go true = refl
    go false = refl
one_more d t a true (some u) h = longer d t a u h

reaches_is : (test : Reading → Bool) (d t : Milliseconds) (taken : List Measured) → Ordered taken → reaches test d t taken ≡ reached d.0 t.0 (start_of test taken)
reaches_is test d t [] o = refl
reaches_is test d t (m ∷ taken) o =
    ap (λ (x : Bool). passes test m && ((d ≤ms elapsed m.at t) || x)) (reaches_is test d t taken o.1)
    ∙ one_more d.0 t.0 (time m) (passes test m) (start_of test taken) (start_by test (time m) taken o.0)

-- ---- the two sides of a kept span

abbrev beyond_of : Span → Option ℕ
beyond_of Idle = none
beyond_of (Beyond u) = some u.0
beyond_of (Within u) = none

abbrev within_of : Span → Option ℕ
within_of Idle = none
within_of (Beyond u) = none
within_of (Within u) = some u.0

beyond_next : (b w : Bool) (t : Milliseconds) (s : Span) → beyond_of (span_at b w t s) ≡ begun b t.0 (beyond_of s)
beyond_next true w t Idle = refl
beyond_next true w t (Beyond u) = refl
beyond_next true w t (Within u) = refl
beyond_next false true t Idle = refl
beyond_next false true t (Beyond u) = refl
beyond_next false true t (Within u) = refl
beyond_next false false t s = refl

within_next : (b w : Bool) (t : Milliseconds) (s : Span) → (T b → T w → ⊥) → within_of (span_at b w t s) ≡ begun w t.0 (within_of s)
within_next true true t s n = absurd (n tt tt)
within_next true false t Idle n = refl
within_next true false t (Beyond u) n = refl
within_next true false t (Within u) n = refl
within_next false true t Idle n = refl
within_next false true t (Beyond u) n = refl
within_next false true t (Within u) n = refl
within_next false false t s n = refl

tripped_by : (hold release t : Milliseconds) (s : Span) (was : Bool)
    → tripped_at hold release t s was ≡ (reached hold.0 t.0 (beyond_of s) || (not (reached release.0 t.0 (within_of s)) && was))
tripped_by hold release t Idle was = refl
tripped_by hold release t (Beyond u) was = refl
tripped_by hold release t (Within u) was = refl

-- ---- what is kept of a protection

abbrev pub Apart : Protection → Type 0
Apart p = (r : Reading) → T (p.beyond r) → T (p.within r) → ⊥

pub record Tracks (p : Protection) (s : ProtectionState) (taken : List Measured) : Type 0 where
  pub beyond : beyond_of s.span ≡ start_of p.beyond taken
  pub within : within_of s.span ≡ start_of p.within taken
  pub tripped : s.tripped ≡ is_tripped p taken

pub tracks_none : (p : Protection) → Tracks p clear_state []
tracks_none p = record { beyond = refl; within = refl; tripped = refl }

module _ (p : Protection) (apart : Apart p) (m : Measured) (taken : List Measured) (o : Ordered (m ∷ taken)) (s : ProtectionState) where
  abbrev now : ProtectionState
  now = tracked (passes p.beyond m) (passes p.within m) p.hold p.release m.at s

  not_both : T (passes p.beyond m) → T (passes p.within m) → ⊥
  not_both b w = apart m.reading ((and_iff (plausible m.reading) _).0 b).1 ((and_iff (plausible m.reading) _).0 w).1

  ends : (test : Reading → Bool) (d : Milliseconds) → ends_now test d (m ∷ taken) ≡ reached d.0 (time m) (start_of test (m ∷ taken))
  ends test d = reaches_is test d m.at (m ∷ taken) o

  tracks_now : Tracks p s taken → Tracks p now (m ∷ taken)
  tracks_now k = record { beyond = beyond'; within = within'; tripped = tripped' }
    where
      beyond' : beyond_of now.span ≡ start_of p.beyond (m ∷ taken)
      beyond' = beyond_next (passes p.beyond m) (passes p.within m) m.at s.span
          ∙ ap (λ (x : Option ℕ). begun (passes p.beyond m) (time m) x) k.beyond

      within' : within_of now.span ≡ start_of p.within (m ∷ taken)
      within' = within_next (passes p.beyond m) (passes p.within m) m.at s.span not_both
          ∙ ap (λ (x : Option ℕ). begun (passes p.within m) (time m) x) k.within

      tripped' : now.tripped ≡ is_tripped p (m ∷ taken)
      tripped' =
          tripped_by p.hold p.release m.at now.span s.tripped
          ∙ rw (beyond', within', k.tripped, ends p.beyond p.hold, ends p.within p.release) refl

  pub tracks_next : Tracks p s taken → Tracks p (track_one p m.at m.reading s) (m ∷ taken)
  unfolding track_one
  tracks_next k = tracks_now k

-- a kept span began by any bound that no measurement passes
span_by : (bound : Milliseconds) (s : Span) → StartBy bound.0 (beyond_of s) → StartBy bound.0 (within_of s) → StartedBy bound s
span_by bound Idle b w = tt
span_by bound (Beyond u) b w = b
span_by bound (Within u) b w = w

pub tracks_by : (p : Protection) (s : ProtectionState) (taken : List Measured) (bound : Milliseconds) → AllBy bound.0 taken → Tracks p s taken
    → StartedBy bound s.span
tracks_by p s taken bound h k =
    span_by bound s.span
    (subst (StartBy bound.0) (sym k.beyond) (start_by p.beyond bound.0 taken h))
    (subst (StartBy bound.0) (sym k.within) (start_by p.within bound.0 taken h))
