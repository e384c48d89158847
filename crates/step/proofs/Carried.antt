-- What an accepted call carries of soundness, all but the accounts: it finds it true and leaves it so. This wants the lengths of the stores'
-- arrays, which their types give: with 17 places and 16 of them counted, one push would count the place that was not tested. Protections are
-- read by the view of each, whatever keeps them.
use mathlib.Core.Path.{◌≡◌, refl, sym, subst}
use mathlib.Core.Logic.{◌↔◌}
use mathlib.Core.Bool.{Bool, true, false, cond, ◌&&◌}
use Prim.Native.Nat.{ℕ, zero, suc, ◌≤◌, ◌<◌}
use native.Mathlib.Omega.{arith}
use lib.Dec.{T, leb→le, le→leb, lt→ltb}
use Rattle.rules.specs.declared.units.Milliseconds.{Milliseconds}
use Rattle.rules.specs.declared.sensors.Reading.{Reading}
use Rattle.rules.specs.declared.states.State.{State}
use Rattle.rules.specs.declared.states.State.TheVariants.{Unpowered, Dormant}
use Rattle.rules.specs.declared.calls.Event.{Event}
use Rattle.rules.specs.declared.calls.Event.TheVariants.{Measurement, PowerOn, PowerLoss, ContactorCommand, StateRequest, BattleOverride, ClearLongTerm}
use Rattle.rules.specs.Soundness.{Previous}
use Rattle.std.specs.Prelude.{None, Some}
use Rattle.rules.specs.declared.session.Watch.{Watch}
use Rattle.rules.specs.declared.stores.Stores.{Stores}
use Rattle.rules.specs.declared.battery.Live.{Live}
use Rattle.rules.specs.declared.battery.Record.{Record}
use Rattle.rules.specs.Lists.{all, tabulate, Each, none, ◌and◌}
use Rattle.rules.specs.Quantities.{◌≤ms◌}
use Rattle.rules.specs.Calls.{time_of}
use Rattle.rules.specs.Test.{plausible}
use Rattle.rules.specs.Protections.{row_of}
use Rattle.rules.specs.Refusals.{InTime}
use Rattle.rules.specs.Shown.{Span, Idle, Beyond, Within, ProtectionState, bit_of, kept_at}
use Rattle.rules.proofs.Bools.{and_iff, is_true}
use Rattle.rules.proofs.Lists.{all_each, all_places}
use Rattle.rules.proofs.CallTable.{in_time}
use Rattle.rules.proofs.Mask.{mask_13_bits}
use Rattle.step.specs.Sound.{started_by, measured_by, current_kept, watch_tests, rest_tests, stores_tests}
use Rattle.step.specs.Sound.{rest_live, sound_stores, sound_rest, sound_accounts, sound}
use Rattle.step.specs.Refusal.{refusal_live}
use Rattle.step.specs.Track.{span_at, track_one, observe}
use Rattle.step.specs.Call.{set_live, border_live, advance_live, advance_stores, advance, answer, call}
use Rattle.step.proofs.Sounds.{below8_is}
use Rattle.step.proofs.Adding.{StoresFit, added_all}
use Rattle.step.proofs.Keeping.{kept_observed}
use Rattle.step.proofs.Charging.{plausible_current}
use Rattle.step.proofs.Shows.{long_none, short_none}
use Rattle.step.proofs.Shaped.{Shaped}

-- ---- the stores

fits : (r : Record) → Shaped r → T (sound_stores r.stores) → StoresFit r.stores
unfolding sound_stores
fits r shaped h = go ((all_each (stores_tests r.stores)).0 h)
  where
    go : Each T (stores_tests r.stores) → StoresFit r.stores
    go (long and short and longs and shorts and none) = record {
      long = record {
        sized = shaped.long;
        count = leb→le _ _ long;
        below8 = (below8_is r.stores.long.count r.stores.long.protections).0 longs;
      };
      short = record {
        sized = shaped.short;
        count = leb→le _ _ short;
        below8 = (below8_is r.stores.short.count r.stores.short.protections).0 shorts;
      };
    }

fit_sound : (s : Stores) → StoresFit s → T (sound_stores s)
unfolding sound_stores
fit_sound s f =
    (all_each (stores_tests s)).1
    (le→leb _ _ f.long.count
    and le→leb _ _ f.short.count
    and (below8_is s.long.count s.long.protections).1 f.long.below8
    and (below8_is s.short.count s.short.protections).1 f.short.below8
    and none)

stores_advance : (e : Event) (before after : Live) (s : Stores) → StoresFit s → StoresFit (advance_stores e before after s)
stores_advance (Measurement t r) before after s f =
    (added_all before.battery t r _ _
    (bit_of before.watch.tripped) (bit_of after.watch.tripped) (λ i h. refl) (λ i h. refl) s f).fits
stores_advance (PowerOn t) before after s f = record { long = f.long; short = short_none }
stores_advance (PowerLoss t) before after s f = record { long = f.long; short = short_none }
stores_advance (ContactorCommand t c) before after s f = f
stores_advance (StateRequest t q) before after s f = f
stores_advance (BattleOverride t on) before after s f = f
stores_advance (ClearLongTerm t) before after s f = record { long = long_none; short = f.short }

-- ---- what is watched: kept, at a last time that is no earlier

started : (last : Milliseconds) (w : Watch)
    → T (all (tabulate 8 (λ protection. started_by last (kept_at w protection).span))) ↔ ((i : ℕ) → i < 8 → T (started_by last (kept_at w i).span))
started last w = all_places 8 (λ protection. started_by last (kept_at w protection).span)

module _ (last t : Milliseconds) (k : last.0 ≤ t.0) where
  later : (u : Milliseconds) → T (u ≤ms last) → T (u ≤ms t)
  later u h = le→leb u.0 t.0 (omega (arith, leb→le u.0 last.0 h))

  started_later : (s : Span) → T (started_by last s) → T (started_by t s)
  started_later Idle h = tt
  started_later (Beyond u) h = later u h
  started_later (Within u) h = later u h

  measured_later : (p : Previous) → T (measured_by last p) → T (measured_by t p)
  measured_later None h = tt
  measured_later (Some (u, i)) h = later u h

  watch_later : (w : Watch) → Each T (watch_tests last w) → Each T (watch_tests t w)
  watch_later w (mask and measured and current and spans and none) =
      mask
      and measured_later w.previous measured
      and current
      and (started t w).1 (λ i h. started_later (kept_at w i).span ((started last w).0 spans i h))
      and none

-- ---- what is watched: after a measurement

now : (t : Milliseconds) → T (t ≤ms t)
now t = le→leb t.0 t.0 (omega arith)

span_started : (beyond within : Bool) (t : Milliseconds) (s : Span) → T (started_by t s) → T (started_by t (span_at beyond within t s))
span_started true within t Idle h = now t
span_started true within t (Beyond u) h = h
span_started true within t (Within u) h = now t
span_started false true t Idle h = now t
span_started false true t (Beyond u) h = now t
span_started false true t (Within u) h = h
span_started false false t s h = tt

module _ (battery : ℕ) (t : Milliseconds) (r : Reading) where
  one_started : (protection : ℕ) (s : ProtectionState) → T (started_by t s.span) → T (started_by t (track_one (row_of battery protection) t r s).span)
  unfolding track_one
  one_started protection s =
      span_started (plausible r && (row_of battery protection).beyond r) (plausible r && (row_of battery protection).within r) t s.span

  frame_measured : (b : Bool) → T (measured_by t (cond b (Some (t, r.current)) None))
  frame_measured true = now t
  frame_measured false = tt

  frame_kept : (b : Bool) → plausible r ≡ b → T (current_kept (cond b (Some (t, r.current)) None))
  frame_kept true e = plausible_current r (subst T (sym e) tt)
  frame_kept false e = tt

  watch_now : (w : Watch) → Each T (watch_tests t w) → Each T (watch_tests t (observe battery t r w))
  unfolding observe
  watch_now w (mask and measured and current and spans and none) =
      lt→ltb _ _ (mask_13_bits r)
      and frame_measured (plausible r)
      and frame_kept (plausible r) refl
      and (started t (observe battery t r w)).1 (λ i h. subst (λ s. T (started_by t s.span)) (sym (kept_observed battery t r w i h)) (one_started i (kept_at w i) ((started t w).0 spans i h)))
      and none

-- ---- the live part

-- control and tally are not asked: whatever a call sets of them
module _ (l : Live) (t : Milliseconds) (h : InTime l.last t) where
  live_set : Each T (rest_tests l) → Each T (rest_tests (set_live t l.control l.tally l))
  live_set (low and high and last and watch) =
      low
      and high
      and le→leb _ _ h.not_above_mission
      and watch_later l.last t h.not_below_last l.watch watch

  live_border : (s : State) → Each T (rest_tests l) → Each T (rest_tests (border_live s t l))
  live_border s (low and high and last and watch) = low and high and le→leb _ _ h.not_above_mission and tt and tt and tt and tt and none

  live_measured : (r : Reading) → Each T (rest_tests l) → Each T (rest_tests (advance_live (Measurement t r) l))
  live_measured r (low and high and last and watch) =
      low
      and high
      and le→leb _ _ h.not_above_mission
      and watch_now l.battery t r l.watch (watch_later l.last t h.not_below_last l.watch watch)

live_advance : (e : Event) (l : Live) → InTime l.last (time_of e) → Each T (rest_tests l) → Each T (rest_tests (advance_live e l))
live_advance (Measurement t r) l h = live_measured l t h r
live_advance (PowerOn t) l h = live_border l t h Dormant
live_advance (PowerLoss t) l h = live_border l t h Unpowered
live_advance (ContactorCommand t c) l h = live_set l t h
live_advance (StateRequest t q) l h = live_set l t h
live_advance (BattleOverride t on) l h = live_set l t h
live_advance (ClearLongTerm t) l h = live_set l t h

-- ---- a call

module _ (r : Record) (shaped : Shaped r) (e : Event) where
  module _ (h : InTime r.live.last (time_of e)) (rest : T (sound_rest r)) where
    parts : T (rest_live r.live) × T (sound_stores r.stores)
    parts = (and_iff (rest_live r.live) (sound_stores r.stores)).0 rest

    fits_after : StoresFit (advance r e).stores
    fits_after = stores_advance e r.live (advance_live e r.live) r.stores (fits r shaped parts.1)

    live_after : T (rest_live (advance r e).live)
    unfolding rest_live
    live_after = (all_each (rest_tests (advance r e).live)).1 (live_advance e r.live h ((all_each (rest_tests r.live)).0 parts.0))

    pub rest_after : T (sound_rest (advance r e))
    rest_after =
        (and_iff (rest_live (advance r e).live) (sound_stores (advance r e).stores)).1
        (live_after, fit_sound (advance r e).stores fits_after)

    pub shaped_after : Shaped (advance r e)
    shaped_after = record { long = fits_after.long.sized; short = fits_after.short.sized }

  -- an accepted call finds a sound record, and a time in order
  found : sound r ≡ true → T (sound_rest r)
  found s = ((and_iff (sound_rest r) (sound_accounts r.live)).0 ((is_true (sound r)).1 s)).0

  timed : refusal_live r.live e ≡ 0 → InTime r.live.last (time_of e)
  timed z = in_time r.live.control.state r.live.last r.live.tally.commands e z

  -- what holds of the record and, where the call is accepted, after it
  pub either : (P : Record → Type 0) → P r → (InTime r.live.last (time_of e) → T (sound_rest r) → P (advance r e)) → P (call r e).after
  either P before after = go (sound r) refl (refusal_live r.live e) refl
    where
      go : (b : Bool) → sound r ≡ b → (n : ℕ) → refusal_live r.live e ≡ n → P (answer (cond b n 5) (advance r e) r).after
      go false s n z = before
      go true s (suc n) z = before
      go true s zero z = after (timed z) (found s)
