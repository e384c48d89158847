-- The step's test of soundness is document 01's list of conditions, no more and no less.
use mathlib.Core.Path.{◌≡◌, refl, sym, subst}
use mathlib.Core.Logic.{◌↔◌, ◌⊎◌, inl, inr}
use mathlib.Core.Bool.{Bool, true, false, ◌&&◌, ◌||◌}
use mathlib.Core.List.{List}
use Prim.Native.Nat.{ℕ, zero, suc, ◌≤◌, ◌<◌}
use native.Mathlib.Omega.{arith}
use native.Mathlib.Nat.{eq-or-lt_of_le, not-suc-le-zero, le_of_suc-le-suc}
use borrow.Author.Tests.{eqb-false}
use lib.Dec.{T, leb, eqb, leb→le, le→leb, ltb→lt, lt→ltb, eqb→eq}
use lib.ListN.{get_or}
use Rattle.rules.specs.declared.units.Milliseconds.{Milliseconds}
use Rattle.rules.specs.declared.units.Charge.{Charge}
use Rattle.rules.specs.Soundness.{Previous}
use Rattle.std.specs.Prelude.{None, Some}
use Rattle.rules.specs.declared.battery.Record.{Record}
use Rattle.rules.specs.Quantities.{is_type}
use Rattle.rules.specs.Shown.{Span, Idle, Beyond, Within, kept_of, kept_at}
use Rattle.rules.specs.Soundness.{account_limit, Sound, StartedBy, MeasuredBy, KeptInRange, ProtectionsBelow8}
use Rattle.rules.specs.Lists.{all, tabulate, Each, none, ◌and◌}
use Rattle.rules.proofs.Bools.{and_iff}
use Rattle.rules.proofs.Lists.{all_each, all_places}
use Rattle.step.specs.Sound.{started_by, measured_by, current_kept, below8, rest_tests, stores_tests}
use Rattle.step.specs.Sound.{rest_live, sound_stores, sound_rest, sound_accounts, sound}

-- ---- a battery type

pub type_is : (b : ℕ) → (T (leb 1 b) × T (leb b 3)) ↔ T (is_type b)
type_is b = (λ h. to (leb→le 1 b h.0) (leb→le b 3 h.1), λ h. back (eqb b 1) refl (eqb b 2) refl (eqb b 3) refl h)
  where
    to : 1 ≤ b → b ≤ 3 → T (is_type b)
    to h k = go (eqb b 1) refl (eqb b 2) refl (eqb b 3) refl
      where
        go : (x : Bool) → eqb b 1 ≡ x → (y : Bool) → eqb b 2 ≡ y → (z : Bool) → eqb b 3 ≡ z → T (x || (y || z))
        go true p y q z r = tt
        go false p true q z r = tt
        go false p false q true r = tt
        go false p false q false r = absurd (omega (arith, eqb-false b 1 p, eqb-false b 2 q, eqb-false b 3 r))

    from : (n : ℕ) → 1 ≤ n → n ≤ 3 → T (eqb b n) → T (leb 1 b) × T (leb b 3)
    from n h k e = (le→leb 1 b (omega (arith, eqb→eq b n e)), le→leb b 3 (omega (arith, eqb→eq b n e)))

    back : (x : Bool) → eqb b 1 ≡ x → (y : Bool) → eqb b 2 ≡ y → (z : Bool) → eqb b 3 ≡ z → T (x || (y || z)) → T (leb 1 b) × T (leb b 3)
    back true p y q z r h = from 1 (omega arith) (omega arith) (subst T (sym p) tt)
    back false p true q z r h = from 2 (omega arith) (omega arith) (subst T (sym q) tt)
    back false p false q true r h = from 3 (omega arith) (omega arith) (subst T (sym r) tt)
    back false p false q false r h = absurd h

-- ---- the counted places of a store

pub below8_is : (n : ℕ) (protections : List ℕ) → T (below8 n protections) ↔ ProtectionsBelow8 n protections
below8_is zero protections = (λ h place k. absurd (not-suc-le-zero k), λ f. tt)
below8_is (suc n) protections = step (below8_is n protections)
  where
    here : T (below8 n protections && leb (get_or protections n 0) 7) ↔ (T (below8 n protections) × T (leb (get_or protections n 0) 7))
    here = and_iff (below8 n protections) (leb (get_or protections n 0) 7)

    step : T (below8 n protections) ↔ ProtectionsBelow8 n protections → T (below8 (suc n) protections) ↔ ProtectionsBelow8 (suc n) protections
    step rest = (λ h place k. last_or h place (eq-or-lt_of_le (le_of_suc-le-suc k)), λ f. here.1 (rest.1 (λ place k. f place (omega arith)), le→leb _ _ (f n (omega arith))))
      where
        last_or : T (below8 (suc n) protections) → (place : ℕ) → (place ≡ n) ⊎ (place < n) → get_or protections place 0 ≤ 7
        last_or h place (inl e) = rw e (leb→le _ _ (here.0 h).1)
        last_or h place (inr k) = rest.0 (here.0 h).0 place k

-- ---- spans and the last measurement

started_is : (last : Milliseconds) (s : Span) → T (started_by last s) ↔ StartedBy last s
started_is last Idle = (λ h. tt, λ h. tt)
started_is last (Beyond u) = (leb→le _ _, le→leb _ _)
started_is last (Within u) = (leb→le _ _, le→leb _ _)

measured_is : (last : Milliseconds) (p : Previous) → T (measured_by last p) ↔ MeasuredBy last p
measured_is last None = (λ h. tt, λ h. tt)
measured_is last (Some (t, i)) = (leb→le _ _, le→leb _ _)

kept_is : (p : Previous) → T (current_kept p) ↔ KeptInRange p
kept_is None = (λ h. tt, λ h. tt)
kept_is (Some (t, i)) = (λ h. h, λ h. h)

-- ---- the record

module _ (r : Record) where
  spans : T (all (tabulate 8 (λ protection. started_by r.live.last (kept_at r.live.watch protection).span)))
      ↔ ((protection : ℕ) → protection < 8 → StartedBy r.live.last (kept_of r protection).span)
  spans =
      let every = all_places 8 (λ protection. started_by r.live.last (kept_at r.live.watch protection).span) in
      (λ h protection k. (started_is r.live.last (kept_of r protection).span).0 (every.0 h protection k), λ f. every.1 (λ protection k. (started_is r.live.last (kept_of r protection).span).1 (f protection k)))

  abbrev within : Charge → Bool
  within account = leb account.0 (account_limit r.live.last).0

  to : Each T (rest_tests r.live) → Each T (stores_tests r.stores)
      → T (within r.live.tally.charged) × T (within r.live.tally.discharged) → Sound r
  to (low and high and last and mask and measured and current and started and none)
      (long and short and longs and shorts and none) (charged, discharged) = record {
        battery = (type_is r.live.battery).0 (low, high);
        last_time = leb→le _ _ last;
        long_count = leb→le _ _ long;
        short_count = leb→le _ _ short;
        long_protections = (below8_is r.stores.long.count r.stores.long.protections).0 longs;
        short_protections = (below8_is r.stores.short.count r.stores.short.protections).0 shorts;
        mask = ltb→lt _ _ mask;
        charged = leb→le _ _ charged;
        discharged = leb→le _ _ discharged;
        spans = spans.0 started;
        previous = (measured_is r.live.last r.live.watch.previous).0 measured;
        current = (kept_is r.live.watch.previous).0 current;
      }

  live_from : Sound r → Each T (rest_tests r.live)
  live_from s =
      let type = (type_is r.live.battery).1 s.battery in
      type.0
      and type.1
      and le→leb _ _ s.last_time
      and lt→ltb _ _ s.mask
      and (measured_is r.live.last r.live.watch.previous).1 s.previous
      and (kept_is r.live.watch.previous).1 s.current
      and spans.1 s.spans
      and none

  stores_from : Sound r → Each T (stores_tests r.stores)
  stores_from s =
      le→leb _ _ s.long_count
      and le→leb _ _ s.short_count
      and (below8_is r.stores.long.count r.stores.long.protections).1 s.long_protections
      and (below8_is r.stores.short.count r.stores.short.protections).1 s.short_protections
      and none

  pub sound_is : T (sound r) ↔ Sound r
  unfolding rest_live sound_stores sound_accounts
  sound_is =
      let whole = and_iff (sound_rest r) (sound_accounts r.live) in
      let parts = and_iff (all (rest_tests r.live)) (all (stores_tests r.stores)) in
      let accounts = and_iff (within r.live.tally.charged) (within r.live.tally.discharged) in (
        λ h. to ((all_each (rest_tests r.live)).0 (parts.0 (whole.0 h).0).0)
            ((all_each (stores_tests r.stores)).0 (parts.0 (whole.0 h).0).1) (accounts.0 (whole.0 h).1),
        λ s. whole.1 (
          parts.1 ((all_each (rest_tests r.live)).1 (live_from s), (all_each (stores_tests r.stores)).1 (stores_from s)),
          accounts.1 (le→leb _ _ s.charged, le→leb _ _ s.discharged),
        ),
      )
