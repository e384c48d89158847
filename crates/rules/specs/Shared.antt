-- 00-mission.md, demand 3: "the same state, command, tripped protections, test result, failed sensors, charge accounts, command count and
-- fault stores, each as document 01 lays it down for either list". Each of these is said here once: what a record shows of it, what the
-- rules say of it for a list of calls, and when two of them agree. Claims uses the agreement for a list and for two lists.
use Rattle.std.specs.Prelude.{ℕ, ◌<◌, ◌≡◌, ◌↔◌, List, T}
use Rattle.rules.specs.declared.units.Charge.{Charge}
use Rattle.rules.specs.declared.calls.Event.{Event}
use Rattle.rules.specs.declared.stores.Entry.{Entry}
use Rattle.rules.specs.declared.battery.Record.{Record}
use Rattle.rules.specs.Numbers.{state_number, command_number, test_number}
use Rattle.rules.specs.Ledger.{ledger, accepted, test_of, failed_mask_of, failed_count_of, TrippedOn}
use Rattle.rules.specs.Stores.{long_term, short_term}
use Rattle.rules.specs.Accounts.{charged, discharged}
use Rattle.rules.specs.Shown.{kept_of, long_entries, short_entries}

-- enums by the paper's numbers; `tripped` of a protection
pub record Shared : Type 1 where
  pub state : ℕ
  pub command : ℕ
  pub tripped : ℕ → Type 0
  pub test : ℕ
  pub failed_mask : ℕ
  pub failed_count : ℕ
  pub charged : Charge
  pub discharged : Charge
  pub commands : ℕ
  pub long_term : List Entry
  pub short_term : List Entry

-- what a record shows
abbrev pub shown_by : Record → Shared
shown_by r = record {
  state = state_number r.live.control.state;
  command = command_number r.live.control.command;
  tripped = λ protection. T (kept_of r protection).tripped;
  test = test_number r.live.watch.test;
  failed_mask = r.live.watch.mask;
  failed_count = r.live.watch.failed;
  charged = r.live.tally.charged;
  discharged = r.live.tally.discharged;
  commands = r.live.tally.commands;
  long_term = long_entries r.stores.long;
  short_term = short_entries r.stores.short;
}

-- what document 01 says of a battery type and a list of calls
abbrev pub ruled_for : ℕ → List Event → Shared
ruled_for battery calls = record {
  state = state_number (ledger calls).state;
  command = command_number (ledger calls).command;
  tripped = λ protection. TrippedOn battery (ledger calls) protection;
  test = test_of (ledger calls).measured;
  failed_mask = failed_mask_of (ledger calls).measured;
  failed_count = failed_count_of (ledger calls).measured;
  charged = charged (accepted calls);
  discharged = discharged (accepted calls);
  commands = (ledger calls).commands;
  long_term = long_term battery (accepted calls);
  short_term = short_term battery (accepted calls);
}

pub record Agree (a b : Shared) : Type 0 where
  pub state : a.state ≡ b.state
  pub command : a.command ≡ b.command
  pub tripped : (protection : ℕ) → protection < 8 → a.tripped protection ↔ b.tripped protection
  pub test : a.test ≡ b.test
  pub failed_mask : a.failed_mask ≡ b.failed_mask
  pub failed_count : a.failed_count ≡ b.failed_count
  pub charged : a.charged ≡ b.charged
  pub discharged : a.discharged ≡ b.discharged
  pub commands : a.commands ≡ b.commands
  -- "Fault stores are the same if they hold equal entries in the same order."
  pub long_term : a.long_term ≡ b.long_term
  pub short_term : a.short_term ≡ b.short_term
