-- The record shows the ledger: this is kept by every call, from any record and ledger that have it.
use mathlib.Core.Path.{◌≡◌, refl, sym, subst}
use mathlib.Core.List.{List, []}
use Prim.Native.Nat.{ℕ, ◌*◌, ◌≤◌, ◌<◌}
use native.Mathlib.Nat.{not-suc-le-zero}
use native.Mathlib.Omega.{arith}
use lib.Dec.{T}
use Rattle.rules.specs.declared.session.Watch.{Watch}
use Rattle.rules.specs.declared.stores.Stores.{Stores}
use Rattle.rules.specs.declared.battery.Control.{Control}
use Rattle.rules.specs.declared.battery.Tally.{Tally}
use Rattle.rules.specs.declared.battery.Record.{Record}
use Rattle.rules.specs.Quantities.{is_type, mission_time}
use Rattle.rules.specs.Numbers.{test_number}
use Rattle.rules.specs.Protections.{row_of}
use Rattle.rules.specs.Trips.{Measured}
use Rattle.rules.specs.Ledger.{Ledger, at_first, Accepted, test_of, failed_mask_of, failed_count_of}
use Rattle.rules.specs.Stores.{long_term, short_term}
use Rattle.rules.specs.Accounts.{charged, discharged}
use Rattle.rules.specs.Shown.{long_entries, short_entries, clear_state, kept_at}
use Rattle.rules.proofs.Bits.{bit_of_none}
use Rattle.step.specs.Fresh.{no_watch, no_long_term, no_short_term, fresh_record}
use Rattle.step.proofs.Tracking.{AllBy, Ordered, Tracks, tracks_none}
use Rattle.step.proofs.Storing.{LongFits, ShortFits}
use Rattle.step.proofs.Adding.{StoresFit}
use Rattle.step.proofs.Charging.{previous_of, account_time}

-- ---- what the parts of the record show

pub record ShowsControl (c : Control) (l : Ledger) : Type 0 where
  pub state : c.state ≡ l.state
  pub command : c.command ≡ l.command
  pub override : c.overriding ≡ l.override

pub record ShowsWatch (battery : ℕ) (w : Watch) (taken : List Measured) : Type 0 where
  pub test : test_number w.test ≡ test_of taken
  pub mask : w.mask ≡ failed_mask_of taken
  pub failed : w.failed ≡ failed_count_of taken
  pub previous : w.previous ≡ previous_of taken
  pub protections : (protection : ℕ) → protection < 8 → Tracks (row_of battery protection) (kept_at w protection) taken

-- an account is at most 2,000,000 × the bound, a time
pub record ShowsTally (n : Tally) (commands bound : ℕ) (past : List Accepted) : Type 0 where
  pub counted : n.commands ≡ commands
  pub charged : n.charged ≡ charged past
  pub discharged : n.discharged ≡ discharged past
  pub charged_by : n.charged.0 ≤ 2_000_000 * bound
  pub discharged_by : n.discharged.0 ≤ 2_000_000 * bound

pub record ShowsStores (battery : ℕ) (s : Stores) (past : List Accepted) : Type 0 where
  pub long : long_entries s.long ≡ long_term battery past
  pub short : short_entries s.short ≡ short_term battery past
  pub fits : StoresFit s

-- what the ledger's times are
pub record Timed (last : ℕ) (taken : List Measured) : Type 0 where
  pub by : AllBy last taken
  pub ordered : Ordered taken
  pub mission : last ≤ mission_time.0

pub record Shows (r : Record) (l : Ledger) (past : List Accepted) : Type 0 where
  pub battery : T (is_type r.live.battery)
  pub last : r.live.last ≡ l.last
  pub control : ShowsControl r.live.control l
  pub watch : ShowsWatch r.live.battery r.live.watch l.measured
  pub tally : ShowsTally r.live.tally l.commands (account_time l.last.0 l.measured) past
  pub stores : ShowsStores r.live.battery r.stores past
  pub timed : Timed l.last.0 l.measured

-- ---- a session that has just begun or ended

pub watch_none : (battery : ℕ) → ShowsWatch battery no_watch []
watch_none battery = record {
  test = refl;
  mask = refl;
  failed = refl;
  previous = refl;
  protections = λ protection h. subst (λ s. Tracks (row_of battery protection) s []) (sym (all_clear protection h)) (tracks_none (row_of battery protection));
}
  where
    all_clear : (protection : ℕ) → protection < 8 → kept_at no_watch protection ≡ clear_state
    all_clear protection h = rw (bit_of_none protection)

pub long_none : LongFits no_long_term
long_none = record { sized = search; count = omega arith; below8 = λ place h. absurd (not-suc-le-zero h) }

pub short_none : ShortFits no_short_term
short_none = record { sized = search; count = omega arith; below8 = λ place h. absurd (not-suc-le-zero h) }

pub shows_fresh : (battery : ℕ) → T (is_type battery) → Shows (fresh_record battery) at_first []
unfolding long_entries short_entries
shows_fresh battery h = record {
  battery = h;
  last = refl;
  control = record { state = refl; command = refl; override = refl };
  watch = watch_none battery;
  tally = record { counted = refl; charged = refl; discharged = refl; charged_by = omega arith; discharged_by = omega arith };
  stores = record { long = refl; short = refl; fits = record { long = long_none; short = short_none } };
  timed = record { by = tt; ordered = tt; mission = omega arith };
}
