-- An accepted call that takes no measurement leaves a record that shows the ledger after it: a setting, which leaves the session going on,
-- or the border of a session. Neither adds to an account, so that both are about a tally with the accounts as they were.
use mathlib.Core.Path.{◌≡◌, refl, sym, ap, ◌∙◌}
use mathlib.Core.Bool.{Bool}
use mathlib.Core.List.{List, [], ◌∷◌, ◌++◌, append-nil}
use Prim.Native.Nat.{ℕ, ◌+◌, ◌≤◌}
use native.Mathlib.Nat.{add-zero}
use native.Mathlib.Omega.{arith}
use lib.ListN.{take}
use Rattle.rules.specs.declared.units.Milliseconds.{Milliseconds}
use Rattle.rules.specs.declared.states.State.{State}
use Rattle.rules.specs.declared.calls.Command.{Command}
use Rattle.rules.specs.declared.calls.Request.{Request}
use Rattle.rules.specs.declared.calls.Event.{Event}
use Rattle.rules.specs.declared.calls.Event.TheVariants.{ContactorCommand, StateRequest, BattleOverride, ClearLongTerm}
use Rattle.rules.specs.declared.stores.Stores.{Stores}
use Rattle.rules.specs.declared.battery.Control.{Control}
use Rattle.rules.specs.declared.battery.Tally.{Tally}
use Rattle.rules.specs.declared.battery.Record.{Record}
use Rattle.rules.specs.Lists.{last_of}
use Rattle.rules.specs.Quantities.{ma_ms}
use Rattle.rules.specs.Refusals.{InTime}
use Rattle.rules.specs.Ledger.{Ledger, accept, border, Accepted, entered}
use Rattle.rules.specs.Stores.{since, is_clear, is_border, trips_of, entries_of, long_term, short_term}
use Rattle.rules.specs.Accounts.{charged, discharged}
use Rattle.rules.specs.Shown.{long_entries, short_entries}
use Rattle.step.specs.Fresh.{no_short_term}
use Rattle.step.specs.Call.{set_live, border_live, request_control, advance}
use Rattle.step.proofs.Tracking.{all_by_later}
use Rattle.step.proofs.Charging.{account_time, account_time_lem, account_going}
use Rattle.step.proofs.Shows.{ShowsControl, ShowsTally, ShowsStores, Timed, Shows, watch_none, long_none, short_none}

-- ---- the request of a state

requested_control : (q : Request) (t : Milliseconds) (c : Control) (l : Ledger) → ShowsControl c l
    → ShowsControl (request_control q c) (accept l (StateRequest t q))
requested_control q t c l k = record {
  state = refl;
  command = rw (k.state, k.command) refl;
  override = rw (k.state, k.override) refl;
}

-- ---- a call that takes no measurement, and what it leaves as it is

module _ (r : Record) (l : Ledger) (past : List Accepted) (k : Shows r l past) (t : Milliseconds) (h : InTime l.last t) where
  timed : Timed t.0 l.measured
  timed = record { by = all_by_later l.last.0 t.0 h.not_below_last l.measured k.timed.by; ordered = k.timed.ordered; mission = h.not_above_mission }

  -- a call that adds nothing to an account or a store
  pub record AddsNothing (more : Accepted) : Type 0 where
    pub charged : charged (more ∷ past) ≡ ma_ms ((charged past).0 + 0)
    pub discharged : discharged (more ∷ past) ≡ ma_ms ((discharged past).0 + 0)

  -- a new tally: the count that the ledger has, and the accounts as they were
  pub record SameAccounts (n : Tally) (commands : ℕ) : Type 0 where
    pub counted : n.commands ≡ commands
    pub charged : n.charged ≡ r.live.tally.charged
    pub discharged : n.discharged ≡ r.live.tally.discharged

  same_accounts : SameAccounts r.live.tally l.commands
  same_accounts = record { counted = k.tally.counted; charged = refl; discharged = refl }

  tally_kept : (n : Tally) (commands bound : ℕ) → SameAccounts n commands → account_time l.last.0 l.measured ≤ bound
      → (more : Accepted) → AddsNothing more → ShowsTally n commands bound (more ∷ past)
  tally_kept n commands bound same by more adds = record {
    counted = same.counted;
    charged = same.charged ∙ k.tally.charged ∙ sym (adds.charged ∙ ap ma_ms (add-zero (charged past).0));
    discharged = same.discharged ∙ k.tally.discharged ∙ sym (adds.discharged ∙ ap ma_ms (add-zero (discharged past).0));
    charged_by = rw same.charged (omega (arith, k.tally.charged_by, by));
    discharged_by = rw same.discharged (omega (arith, k.tally.discharged_by, by));
  }

  -- the stores that are kept, with a past that has more and adds nothing
  long_kept : long_entries r.stores.long ≡ take 64 (since is_clear (trips_of r.live.battery) past ++ [])
  long_kept = rw append-nil k.stores.long

  short_kept : short_entries r.stores.short ≡ last_of 16 (since is_border (entries_of r.live.battery) past ++ [])
  short_kept = rw append-nil k.stores.short

  same_stores : (more : Accepted) → long_term r.live.battery (more ∷ past) ≡ take 64 (since is_clear (trips_of r.live.battery) past ++ [])
      → short_term r.live.battery (more ∷ past) ≡ last_of 16 (since is_border (entries_of r.live.battery) past ++ [])
      → ShowsStores r.live.battery r.stores (more ∷ past)
  same_stores more p q = record { long = long_kept ∙ sym p; short = short_kept ∙ sym q; fits = k.stores.fits }

  -- ---- a setting: the session goes on

  set_control_lem : (e : Event) (c : Control) (n : Tally) → ShowsControl c (accept l e) → SameAccounts n (accept l e).commands
      → (accept l e).last ≡ t → (accept l e).measured ≡ l.measured → AddsNothing (entered l e)
      → (s : Stores) → ShowsStores r.live.battery s (entered l e ∷ past)
      → Shows (record { live = set_live t c n r.live; stores = s }) (accept l e) (entered l e ∷ past)
  set_control_lem e c n shown same last measured adds s stores = record {
    battery = k.battery;
    last = sym last;
    control = shown;
    watch = rw measured k.watch;
    tally = rw (last, measured)
        (tally_kept n (accept l e).commands (account_time t.0 l.measured) same (account_going l.last.0 t.0 l.measured h.not_below_last) (entered l e) adds);
    stores = stores;
    timed = rw (last, measured) timed;
  }

  pub commanded : (c : Command) → Shows (advance r (ContactorCommand t c)) (accept l (ContactorCommand t c)) (entered l (ContactorCommand t c) ∷ past)
  commanded c =
      set_control_lem (ContactorCommand t c) _ _
      (record { state = k.control.state; command = refl; override = k.control.override })
      (record { counted = ap (λ (n : ℕ). n + 1) k.tally.counted; charged = refl; discharged = refl })
      refl refl (record { charged = refl; discharged = refl }) r.stores (same_stores (entered l (ContactorCommand t c)) refl refl)

  pub requested' : (q : Request) → Shows (advance r (StateRequest t q)) (accept l (StateRequest t q)) (entered l (StateRequest t q) ∷ past)
  requested' q =
      set_control_lem (StateRequest t q) _ _ (requested_control q t r.live.control l k.control) same_accounts
      refl refl (record { charged = refl; discharged = refl }) r.stores (same_stores (entered l (StateRequest t q)) refl refl)

  pub overridden : (on : Bool) → Shows (advance r (BattleOverride t on)) (accept l (BattleOverride t on)) (entered l (BattleOverride t on) ∷ past)
  overridden on =
      set_control_lem (BattleOverride t on) _ _
      (record { state = k.control.state; command = k.control.command; override = refl }) same_accounts
      refl refl (record { charged = refl; discharged = refl }) r.stores (same_stores (entered l (BattleOverride t on)) refl refl)

  pub cleared : Shows (advance r (ClearLongTerm t)) (accept l (ClearLongTerm t)) (entered l (ClearLongTerm t) ∷ past)
  unfolding long_entries
  cleared =
      set_control_lem (ClearLongTerm t) _ _
      (record { state = k.control.state; command = k.control.command; override = k.control.override }) same_accounts
      refl refl (record { charged = refl; discharged = refl }) _
      (record { long = refl; short = short_kept; fits = record { long = long_none; short = k.stores.fits.short } })

  -- ---- the border of a session

  pub bordered : (s : State) (more : Accepted) → AddsNothing more
      → long_term r.live.battery (more ∷ past) ≡ take 64 (since is_clear (trips_of r.live.battery) past ++ [])
      → short_term r.live.battery (more ∷ past) ≡ []
      → Shows (record { live = border_live s t r.live; stores = record { short = no_short_term; long = r.stores.long } }) (border s t l) (more ∷ past)
  unfolding short_entries
  bordered s more adds long short = record {
    battery = k.battery;
    last = refl;
    control = record { state = refl; command = refl; override = refl };
    watch = watch_none r.live.battery;
    tally = tally_kept r.live.tally l.commands t.0 same_accounts (omega (arith, account_time_lem l.last.0 l.measured k.timed.by, h.not_below_last)) more adds;
    stores = record { long = long_kept ∙ sym long; short = sym short; fits = record { long = k.stores.fits.long; short = short_none } };
    timed = record { by = tt; ordered = tt; mission = h.not_above_mission };
  }
