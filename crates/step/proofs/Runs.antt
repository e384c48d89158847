-- From a record that shows a ledger, every list of calls: the answers, and the record that is left.
use mathlib.Core.Path.{◌≡◌, refl, sym, ap₂, subst, ◌∙◌}
use mathlib.Core.Bool.{Bool, true, false, cond}
use mathlib.Core.List.{List, [], ◌∷◌}
use Prim.Native.Nat.{ℕ, zero, suc, ◌≤◌, ◌<◌}
use native.Mathlib.Omega.{arith}
use lib.Dec.{T}
use Rattle.rules.specs.declared.units.Milliseconds.{Milliseconds}
use Rattle.std.specs.Prelude.{None, Some}
use Rattle.rules.specs.declared.states.State.{State}
use Rattle.rules.specs.declared.calls.Event.{Event}
use Rattle.rules.specs.declared.calls.Event.TheVariants.{Measurement, PowerOn, PowerLoss, ContactorCommand, StateRequest, BattleOverride, ClearLongTerm}
use Rattle.rules.specs.declared.battery.Record.{Record}
use Rattle.rules.specs.Refusals.{refusal as refusal_by_table}
use Rattle.rules.specs.Test.{plausible}
use Rattle.rules.specs.Protections.{row_of}
use Rattle.rules.specs.Trips.{Measured}
use Rattle.rules.specs.Ledger.{Ledger, refused, accept, if_accepted, enter, ledger_from, refusals_from, Accepted, entered, accepted_from, failed_mask_of}
use Rattle.rules.specs.Soundness.{Sound, MeasuredBy, KeptInRange}
use Rattle.rules.proofs.Mask.{mask_13_bits}
use Rattle.rules.specs.Shown.{kept_at}
use Rattle.rules.proofs.Bools.{is_true}
use Rattle.rules.proofs.CallTable.{in_time}
use Rattle.step.specs.Sound.{sound}
use Rattle.step.specs.Refusal.{refusal}
use Rattle.step.specs.Call.{advance, answer, call, run, answers}
use Rattle.step.proofs.Tracking.{AllBy, tracks_by}
use Rattle.step.proofs.Sounds.{sound_is}
use Rattle.step.proofs.Charging.{previous_of, account_time, account_time_lem, plausible_current}
use Rattle.step.proofs.Shows.{Shows}
use Rattle.step.proofs.Accepting.{accepted}

-- ---- a record that shows a ledger is sound

mask_by : (taken : List Measured) → failed_mask_of taken < 8_192
mask_by [] = omega arith
mask_by (m ∷ taken) = mask_13_bits m.reading

previous_by_lem : (last : Milliseconds) (taken : List Measured) → AllBy last.0 taken → MeasuredBy last (previous_of taken)
previous_by_lem last [] h = tt
previous_by_lem last (m ∷ taken) h = go (plausible m.reading)
  where
    go : (b : Bool) → MeasuredBy last (cond b (Some (m.at, m.reading.current)) None)
    go true = h.0
    go false = tt

previous_kept : (taken : List Measured) → KeptInRange (previous_of taken)
previous_kept [] = tt
previous_kept (m ∷ taken) = go (plausible m.reading) refl
  where
    go : (b : Bool) → plausible m.reading ≡ b → KeptInRange (cond b (Some (m.at, m.reading.current)) None)
    go true e = plausible_current m.reading (subst T (sym e) tt)
    go false e = tt

pub shows_sound : (r : Record) (l : Ledger) (past : List Accepted) → Shows r l past → Sound r
shows_sound r l past k = record {
  battery = k.battery;
  last_time = rw k.last k.timed.mission;
  long_count = k.stores.fits.long.count;
  short_count = k.stores.fits.short.count;
  long_protections = k.stores.fits.long.below8;
  short_protections = k.stores.fits.short.below8;
  mask = rw k.watch.mask (mask_by l.measured);
  charged = rw k.last (omega (arith, k.tally.charged_by, bound));
  discharged = rw k.last (omega (arith, k.tally.discharged_by, bound));
  spans = λ protection h. rw k.last
      (tracks_by (row_of r.live.battery protection) (kept_at r.live.watch protection) l.measured l.last k.timed.by (k.watch.protections protection h));
  previous = rw (k.last, k.watch.previous) (previous_by_lem l.last l.measured k.timed.by);
  current = rw k.watch.previous (previous_kept l.measured);
}
  where
    bound : account_time l.last.0 l.measured ≤ l.last.0
    bound = account_time_lem l.last.0 l.measured k.timed.by

-- ---- one call

same_table : {s s' : State} {last last' : Milliseconds} {commands commands' : ℕ} (e : Event) → s ≡ s' → last ≡ last' → commands ≡ commands'
    → refusal_by_table s last commands e ≡ refusal_by_table s' last' commands' e
same_table e p q r = rw (p, q, r) refl

module _ (r : Record) (l : Ledger) (past : List Accepted) (k : Shows r l past) where
  pub same_refusal : (e : Event) → refusal r e ≡ refused l e
  same_refusal e =
      rw ((is_true (sound r)).0 ((sound_is r).1 (shows_sound r l past k))) (same_table e k.control.state k.last k.tally.counted)

  pub shows_call : (e : Event) → Shows (call r e).after (enter l e) (if_accepted (refused l e) (entered l e ∷ past) past)
  shows_call e = go (refused l e) refl
    where
      go : (n : ℕ) → refused l e ≡ n → Shows (answer (refusal r e) (advance r e) r).after (if_accepted (refused l e) (accept l e) l) (if_accepted (refused l e) (entered l e ∷ past) past)
      go zero z = rw (same_refusal e, z) (accepted r l past k e (in_time l.state l.last l.commands e z))
      go (suc n) z = rw (same_refusal e, z) k

  pub refusal_is : (e : Event) → (call r e).refusal ≡ refused l e
  refusal_is e = go (refusal r e) (same_refusal e)
    where
      go : (n : ℕ) → n ≡ refused l e → (answer n (advance r e) r).refusal ≡ refused l e
      go zero z = z
      go (suc n) z = z

-- ---- a list of calls

pub shows_run : (r : Record) (l : Ledger) (past : List Accepted) (es : List Event) → Shows r l past → Shows (run r es) (ledger_from l es) (accepted_from l past es)
shows_run r l past [] k = k
shows_run r l past (e ∷ es) k = shows_run (call r e).after (enter l e) _ es (shows_call r l past k e)

pub answers_are : (r : Record) (l : Ledger) (past : List Accepted) (es : List Event) → Shows r l past → answers r es ≡ refusals_from l es
answers_are r l past [] k = refl
answers_are r l past (e ∷ es) k =
    ap₂ ◌∷◌ (refusal_is r l past k e) (answers_are (call r e).after (enter l e) _ es (shows_call r l past k e))

-- ---- the type stays

battery_advance : (r : Record) (e : Event) → (advance r e).live.battery ≡ r.live.battery
battery_advance r (Measurement t m) = refl
battery_advance r (PowerOn t) = refl
battery_advance r (PowerLoss t) = refl
battery_advance r (ContactorCommand t c) = refl
battery_advance r (StateRequest t q) = refl
battery_advance r (BattleOverride t on) = refl
battery_advance r (ClearLongTerm t) = refl

battery_call : (r : Record) (e : Event) → (call r e).after.live.battery ≡ r.live.battery
battery_call r e = go (refusal r e)
  where
    go : (n : ℕ) → (answer n (advance r e) r).after.live.battery ≡ r.live.battery
    go zero = battery_advance r e
    go (suc n) = refl

pub battery_run : (r : Record) (es : List Event) → (run r es).live.battery ≡ r.live.battery
battery_run r [] = refl
battery_run r (e ∷ es) = battery_run (call r e).after es ∙ battery_call r e
