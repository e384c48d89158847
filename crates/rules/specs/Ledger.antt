-- Document 01, "The ledger of a list".
use Rattle.std.specs.Prelude.{ℕ, zero, suc, ◌+◌, Bool, false, not, cond, ◌&&◌, List, [], ◌∷◌}
use Rattle.rules.specs.declared.units.Milliseconds.{Milliseconds}
use Rattle.rules.specs.declared.sensors.Reading.{Reading}
use Rattle.rules.specs.declared.calls.Command.{Command}
use Rattle.rules.specs.declared.calls.Command.TheVariants.{Automated}
use Rattle.rules.specs.declared.calls.Event.{Event}
use Rattle.rules.specs.declared.calls.Event.TheVariants.{Measurement, PowerOn, PowerLoss, ContactorCommand, StateRequest, BattleOverride, ClearLongTerm}
use Rattle.rules.specs.declared.states.State.{State}
use Rattle.rules.specs.declared.states.State.TheVariants.{Unpowered, Dormant}
use Rattle.rules.specs.Quantities.{ms}
use Rattle.rules.specs.States.{requested, is_change, enters_dormant}
use Rattle.rules.specs.Refusals.{refusal}
use Rattle.rules.specs.Test.{plausible, failed_mask, failed_count}
use Rattle.rules.specs.Protections.{row_of, mask_below}
use Rattle.rules.specs.Trips.{Measured, Tripped, is_tripped}

-- document 01, "ledger": "It holds state, command, override, last time, command count and the session's measurements", the newest
-- first. The battery type that it is fed stands beside it: no refusal and no setting depends on it.
pub record Ledger : Type 0 where
  pub state : State
  pub command : Command
  pub override : Bool
  pub last : Milliseconds
  pub commands : ℕ
  pub measured : List Measured

-- "at first Unpowered, Automated, off, 0, 0 and none"
abbrev pub at_first : Ledger
at_first = record { state = Unpowered; command = Automated; override = false; last = ms 0; commands = 0; measured = [] }

-- "A call is refused as the table below says for a call, tested on what the ledger holds; number 5 never arises."
abbrev pub refused : Ledger → Event → ℕ
refused l e = refusal l.state l.last l.commands e

-- ---- what an accepted call sets, at its time

-- "Dormant, Automated, off, no measurements; power loss: likewise, but Unpowered": the border of a session
abbrev pub border : State → Milliseconds → Ledger → Ledger
border s t l = record { state = s; command = Automated; override = false; last = t; commands = l.commands; measured = [] }

-- state, command and override
abbrev pub set_control : State → Command → Bool → Milliseconds → Ledger → Ledger
set_control s c on t l = record { state = s; command = c; override = on; last = t; commands = l.commands; measured = l.measured }

-- "the count one more"
abbrev pub count_command : Ledger → Ledger
count_command l = record {
  state = l.state;
  command = l.command;
  override = l.override;
  last = l.last;
  commands = l.commands + 1;
  measured = l.measured;
}

-- "joins the measurements as the last"
abbrev pub add_measurement : Reading → Milliseconds → Ledger → Ledger
add_measurement r t l = record {
  state = l.state;
  command = l.command;
  override = l.override;
  last = t;
  commands = l.commands;
  measured = record { at = t; reading = r } ∷ l.measured;
}

abbrev pub accept : Ledger → Event → Ledger
accept l (PowerOn t) = border Dormant t l
accept l (PowerLoss t) = border Unpowered t l
accept l (StateRequest t q) =
    set_control (requested q) (cond (is_change l.state q) Automated l.command) (not (enters_dormant l.state q) && l.override) t l
accept l (ContactorCommand t c) = count_command (set_control l.state c l.override t l)
accept l (BattleOverride t on) = set_control l.state l.command on t l
accept l (Measurement t r) = add_measurement r t l
accept l (ClearLongTerm t) = set_control l.state l.command l.override t l

-- the first of two where a refusal is 0, "A refused call changes nothing"
abbrev pub if_accepted : {A : Type 0} → ℕ → A → A → A
if_accepted zero accepted before = accepted
if_accepted (suc n) accepted before = before

abbrev pub enter : Ledger → Event → Ledger
enter l e = if_accepted (refused l e) (accept l e) l

-- the ledger after a list of calls, the first first, and the refusals on the way
abbrev pub ledger_from : Ledger → List Event → Ledger
ledger_from l [] = l
ledger_from l (e ∷ es) = ledger_from (enter l e) es

abbrev pub refusals_from : Ledger → List Event → List ℕ
refusals_from l [] = []
refusals_from l (e ∷ es) = refused l e ∷ refusals_from (enter l e) es

abbrev pub ledger : List Event → Ledger
ledger calls = ledger_from at_first calls

abbrev pub refusals : List Event → List ℕ
refusals calls = refusals_from at_first calls

-- "the calls that the ledger accepts", newest first, each with the ledger before it and after it
pub record Accepted : Type 0 where
  pub before : Ledger
  pub call : Event
  pub after : Ledger

abbrev pub entered : Ledger → Event → Accepted
entered l e = record { before = l; call = e; after = accept l e }

abbrev pub accepted_from : Ledger → List Accepted → List Event → List Accepted
accepted_from l past [] = past
accepted_from l past (e ∷ es) = accepted_from (enter l e) (if_accepted (refused l e) (entered l e ∷ past) past) es

abbrev pub accepted : List Event → List Accepted
accepted calls = accepted_from at_first [] calls

-- ---- read from the ledger's measurements: "with none, the test is not run, no sensor has failed and nothing is tripped"

-- "The test is 1 passed if the session's last measurement is plausible, 2 failed if it isn't, and 0 not run before there is one."
abbrev pub test_of : List Measured → ℕ
test_of [] = 0
test_of (m ∷ taken) = cond (plausible m.reading) 1 2

-- "The record keeps both for the session's last measurement, 0 before it."
abbrev pub failed_mask_of : List Measured → ℕ
failed_mask_of [] = 0
failed_mask_of (m ∷ taken) = failed_mask m.reading

abbrev pub failed_count_of : List Measured → ℕ
failed_count_of [] = 0
failed_count_of (m ∷ taken) = failed_count m.reading

-- protection `number` of a battery type is tripped on a ledger; `is_tripped_on` is the test that computes
abbrev pub TrippedOn : ℕ → Ledger → ℕ → Type 0
TrippedOn battery l protection = Tripped (row_of battery protection) l.measured

abbrev pub is_tripped_on : ℕ → Ledger → ℕ → Bool
is_tripped_on battery l protection = is_tripped (row_of battery protection) l.measured

abbrev pub tripped_mask_on : ℕ → Ledger → ℕ
tripped_mask_on battery l = mask_below (is_tripped_on battery l) 8
