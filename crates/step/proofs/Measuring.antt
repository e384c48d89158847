-- An accepted measurement leaves a record that shows the ledger after it: what is watched, the accounts and the stores, each by its own laws.
use mathlib.Core.Path.{◌≡◌, refl, sym, ap, ap₂, subst, ◌∙◌}
use mathlib.Core.Bool.{Bool, true, false, cond}
use mathlib.Core.List.{List, ◌∷◌, ◌++◌}
use Prim.Native.Nat.{ℕ, ◌+◌, ◌*◌, ◌≤◌, ◌<◌}
use native.Mathlib.Omega.{arith}
use lib.IntN.{ℤ}
use lib.ListN.{take}
use Rattle.rules.specs.declared.units.Milliseconds.{Milliseconds}
use Rattle.rules.specs.declared.units.Charge.{Charge}
use Rattle.rules.specs.declared.sensors.Reading.{Reading}
use Rattle.rules.specs.declared.states.TestResult.TheVariants.{Passed, Failed}
use Rattle.rules.specs.declared.calls.Event.TheVariants.{Measurement}
use Rattle.rules.specs.declared.session.Watch.{Watch}
use Rattle.rules.specs.declared.battery.Record.{Record}
use Rattle.rules.specs.declared.stores.Entry.{Entry}
use Rattle.rules.specs.Lists.{last_of}
use Rattle.rules.specs.Numbers.{test_number}
use Rattle.rules.specs.Quantities.{ma_ms}
use Rattle.rules.specs.Test.{plausible}
use Rattle.rules.specs.Protections.{row_of}
use Rattle.rules.specs.Trips.{Measured}
use Rattle.rules.specs.Refusals.{InTime}
use Rattle.rules.specs.Ledger.{Ledger, accept, Accepted, entered, is_tripped_on}
use Rattle.rules.specs.Stores.{since, is_clear, is_border, trips_of, entries_of}
use Rattle.rules.specs.Accounts.{account, increment, positive_part, negative_part}
use Rattle.rules.specs.Shown.{kept_at}
use Rattle.rules.proofs.Apart.{apart}
use Rattle.rules.proofs.Lists.{take_kept, last_kept}
use Rattle.step.specs.Track.{observe}
use Rattle.step.specs.Charge.{increment_from, charge}
use Rattle.step.specs.Call.{advance}
use Rattle.step.proofs.Tracking.{Ordered, all_by_later, Tracks, tracks_next}
use Rattle.step.proofs.Keeping.{kept_observed}
use Rattle.step.proofs.Adding.{Added, added_all}
use Rattle.step.proofs.Charging.{increment_from_lem, account_time, account_time_lem, Bounded, increment_bounded, positive_bounded, negative_bounded}
use Rattle.step.proofs.Shows.{ShowsWatch, ShowsTally, ShowsStores, Shows}

-- ---- what is watched

test_is : (b : Bool) → test_number (cond b Passed Failed) ≡ cond b 1 2
test_is true = refl
test_is false = refl

module _ (battery : ℕ) (t : Milliseconds) (r : Reading) (taken : List Measured) (o : Ordered (record { at = t; reading = r } ∷ taken)) where
  abbrev now : Measured
  now = record { at = t; reading = r }

  tracked_at_lem : (w : Watch) (protection : ℕ) → protection < 8 → Tracks (row_of battery protection) (kept_at w protection) taken
      → Tracks (row_of battery protection) (kept_at (observe battery t r w) protection) (now ∷ taken)
  tracked_at_lem w protection h k =
      subst (λ s. Tracks (row_of battery protection) s (now ∷ taken))
      (sym (kept_observed battery t r w protection h))
      (tracks_next (row_of battery protection) (apart battery protection h) now taken o (kept_at w protection) k)

  observed : (w : Watch) → ShowsWatch battery w taken → ShowsWatch battery (observe battery t r w) (now ∷ taken)
  unfolding observe
  observed w k = record {
    test = test_is (plausible r);
    mask = refl;
    failed = refl;
    previous = refl;
    protections = λ protection h. tracked_at_lem w protection h (k.protections protection h);
  }

-- ---- the record

module _ (r : Record) (l : Ledger) (past : List Accepted) (k : Shows r l past) (t : Milliseconds) (m : Reading) (h : InTime l.last t) where
  abbrev new : Measured
  new = record { at = t; reading = m }

  abbrev a : Accepted
  a = entered l (Measurement t m)

  ordered : Ordered (new ∷ l.measured)
  ordered = (all_by_later l.last.0 t.0 h.not_below_last l.measured k.timed.by, k.timed.ordered)

  watched : ShowsWatch r.live.battery (observe r.live.battery t m r.live.watch) (new ∷ l.measured)
  watched = observed r.live.battery t m l.measured ordered r.live.watch k.watch

  added : Added r.stores (advance r (Measurement t m)).stores (trips_of r.live.battery a) (entries_of r.live.battery a)
  added =
      added_all r.live.battery t m r.live.watch.tripped (observe r.live.battery t m r.live.watch).tripped
      (is_tripped_on r.live.battery l) (is_tripped_on r.live.battery (accept l (Measurement t m)))
      (λ i j. (k.watch.protections i j).tripped) (λ i j. (watched.protections i j).tripped) r.stores k.stores.fits

  stored : ShowsStores r.live.battery (advance r (Measurement t m)).stores (a ∷ past)
  stored = record {
    long = added.long ∙ ap (λ (xs : List Entry). take 64 (xs ++ trips_of r.live.battery a)) k.stores.long
        ∙ take_kept 64 (since is_clear (trips_of r.live.battery) past) (trips_of r.live.battery a);
    short = added.short ∙ ap (λ (xs : List Entry). last_of 16 (xs ++ entries_of r.live.battery a)) k.stores.short
        ∙ last_kept 16 (since is_border (entries_of r.live.battery) past) (entries_of r.live.battery a);
    fits = added.fits;
  }

  -- one account, by what flows into it
  module _ (part : ℤ → ℕ) (b : Bounded part) (n : Charge) where
    more : Charge
    more = increment_from part r.live.watch.previous (plausible m) t m.current

    is_increment : more ≡ increment part l.measured new
    unfolding more
    is_increment = rw k.watch.previous (increment_from_lem part l.measured t m)

    account_is : n ≡ account part past → ma_ms (n.0 + more.0) ≡ account part (a ∷ past)
    account_is q = ap₂ (λ (x y : Charge). ma_ms (x.0 + y.0)) q is_increment

    account_by : n.0 ≤ 2_000_000 * account_time l.last.0 l.measured → n.0 + more.0 ≤ 2_000_000 * t.0
    account_by q =
        rw is_increment
        (increment_bounded part b l.measured new l.last.0 n.0 (omega (arith, account_time_lem l.last.0 l.measured k.timed.by, h.not_below_last)) q)

  tallied : ShowsTally (advance r (Measurement t m)).live.tally l.commands t.0 (a ∷ past)
  unfolding charge more
  tallied = record {
    counted = k.tally.counted;
    charged = account_is positive_part positive_bounded r.live.tally.charged k.tally.charged;
    discharged = account_is negative_part negative_bounded r.live.tally.discharged k.tally.discharged;
    charged_by = account_by positive_part positive_bounded r.live.tally.charged k.tally.charged_by;
    discharged_by = account_by negative_part negative_bounded r.live.tally.discharged k.tally.discharged_by;
  }

  pub measured : Shows (advance r (Measurement t m)) (accept l (Measurement t m)) (a ∷ past)
  measured = record {
    battery = k.battery;
    last = refl;
    control = record { state = k.control.state; command = k.control.command; override = k.control.override };
    watch = watched;
    tally = tallied;
    stores = stored;
    timed = record { by = (omega arith, ordered.0); ordered = ordered; mission = h.not_above_mission };
  }
