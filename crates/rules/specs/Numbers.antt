-- The paper's number and values for every case of every enum that is an answer or is printed. Contracts and claims are stated through
-- these; proofs/Injective has that none of them takes two cases for one.
use Rattle.std.specs.Prelude.{ℕ, ◌-◌, Bool, true, false, cond, ◌&&◌, leb, List, [], ◌∷◌, ℤ, pos, nat_abs, get_or, Option, None, Some, Result, Ok, Err}
use Rattle.rules.specs.declared.sensors.Reading.{Reading}
use Rattle.rules.specs.declared.states.State.{State}
use Rattle.rules.specs.declared.states.State.TheVariants.{Unpowered, Dormant, Operational, Maintenance}
use Rattle.rules.specs.declared.states.TestResult.{TestResult}
use Rattle.rules.specs.declared.states.TestResult.TheVariants.{NotRun, Passed, Failed}
use Rattle.rules.specs.declared.states.Contactor.{Contactor}
use Rattle.rules.specs.declared.states.Contactor.TheVariants.{Open as IsOpen, Closed as IsClosed}
use Rattle.rules.specs.declared.calls.Command.{Command}
use Rattle.rules.specs.declared.calls.Command.TheVariants.{Automated, Open, ForceClosed}
use Rattle.rules.specs.declared.calls.Request.{Request}
use Rattle.rules.specs.declared.calls.Request.TheVariants.{Dormant as ToDormant, Operational as ToOperational, Maintenance as ToMaintenance}
use Rattle.rules.specs.declared.calls.Event.{Event}
use Rattle.rules.specs.declared.calls.Event.TheVariants.{Measurement, PowerOn, PowerLoss, ContactorCommand, StateRequest, BattleOverride, ClearLongTerm}
use Rattle.rules.specs.declared.stores.Entry.{Entry}
use Rattle.rules.specs.declared.stores.Entry.TheVariants.{Trip, Release}
use Rattle.rules.specs.declared.refusals.Refusal.{Refusal}
use Rattle.rules.specs.declared.refusals.Refusal.TheVariants.{UnknownType, UnknownKind, CutShort, NotListed, Unsound, TimeBelowLast, TimeAboveMission, WrongPower, RequestNotAllowed, OtherNotAllowed, NoRoom, TooManyEvents, TooFewAnswers}
use Rattle.rules.specs.declared.answers.Unreadable.{Unreadable}
use Rattle.rules.specs.declared.answers.Fresh.{Fresh}
use Rattle.rules.specs.declared.battery.Record.{Record}
use Rattle.rules.specs.Quantities.{mv, ma, ms, dc}

-- ---- states and settings

-- "Unpowered (0)"; "1 Dormant, 2 Operational, 3 Maintenance"
abbrev pub state_number : State → ℕ
state_number Unpowered = 0
state_number Dormant = 1
state_number Operational = 2
state_number Maintenance = 3

-- "1 Dormant, 2 Operational, 3 Maintenance"
abbrev pub request_number : Request → ℕ
request_number ToDormant = 1
request_number ToOperational = 2
request_number ToMaintenance = 3

-- "0 Automated, 1 Open, 2 Force closed"
abbrev pub command_number : Command → ℕ
command_number Automated = 0
command_number Open = 1
command_number ForceClosed = 2

-- "0 off, 1 on"
abbrev pub override_number : Bool → ℕ
override_number false = 0
override_number true = 1

-- "1 passed", "2 failed", "0 not run"
abbrev pub test_number : TestResult → ℕ
test_number NotRun = 0
test_number Passed = 1
test_number Failed = 2

-- "contactor (1 closed)"
abbrev pub contactor_number : Contactor → ℕ
contactor_number IsOpen = 0
contactor_number IsClosed = 1

-- ---- refusals: "Where each number is raised", and document 02's

abbrev pub refusal_number : Refusal → ℕ
refusal_number UnknownType = 1
refusal_number UnknownKind = 2
refusal_number CutShort = 3
refusal_number NotListed = 4
refusal_number Unsound = 5
refusal_number TimeBelowLast = 6
refusal_number TimeAboveMission = 7
refusal_number WrongPower = 8
refusal_number RequestNotAllowed = 9
refusal_number OtherNotAllowed = 10
refusal_number NoRoom = 11
refusal_number TooManyEvents = 12
refusal_number TooFewAnswers = 13

-- 0 where nothing is refused
abbrev pub number_of : Option Refusal → ℕ
number_of None = 0
number_of (Some refusal) = refusal_number refusal

-- ---- events and entries: the kind, and the values of the body's fields in their order

-- "Kind (hex)"
abbrev pub event_kind : Event → ℕ
event_kind (Measurement t r) = 0x01
event_kind (PowerOn t) = 0x02
event_kind (PowerLoss t) = 0x03
event_kind (ContactorCommand t c) = 0x04
event_kind (StateRequest t q) = 0x05
event_kind (BattleOverride t on) = 0x06
event_kind (ClearLongTerm t) = 0x07

-- "8 cells (u16 mv), current (i32), 4 temperatures (i16)"
abbrev pub reading_values : Reading → List ℤ
reading_values r =
    pos r.cell0.0
    ∷ pos r.cell1.0
    ∷ pos r.cell2.0
    ∷ pos r.cell3.0
    ∷ pos r.cell4.0
    ∷ pos r.cell5.0
    ∷ pos r.cell6.0
    ∷ pos r.cell7.0
    ∷ r.current.0
    ∷ r.temperature0.0
    ∷ r.temperature1.0
    ∷ r.temperature2.0
    ∷ r.temperature3.0
    ∷ []

abbrev pub event_values : Event → List ℤ
event_values (Measurement t r) = pos t.0 ∷ reading_values r
event_values (PowerOn t) = pos t.0 ∷ []
event_values (PowerLoss t) = pos t.0 ∷ []
event_values (ContactorCommand t c) = pos t.0 ∷ pos (command_number c) ∷ []
event_values (StateRequest t q) = pos t.0 ∷ pos (request_number q) ∷ []
event_values (BattleOverride t on) = pos t.0 ∷ pos (override_number on) ∷ []
event_values (ClearLongTerm t) = pos t.0 ∷ []

-- "kind hex 21 trip, body time, protection number (1 byte), value (i32)"; "kind hex 22 release, body time, protection number"
abbrev pub entry_kind : Entry → ℕ
entry_kind (Trip t p v) = 0x21
entry_kind (Release t p) = 0x22

abbrev pub entry_values : Entry → List ℤ
entry_values (Trip t p v) = pos t.0 ∷ pos p ∷ v ∷ []
entry_values (Release t p) = pos t.0 ∷ pos p ∷ []

-- ---- the event of a kind and its values, as far as there is one: from a reader's answer back to what was read

-- no request has number 0
abbrev pub request_of : ℕ → Request
request_of n = get_or (ToDormant ∷ ToDormant ∷ ToOperational ∷ ToMaintenance ∷ []) n ToDormant

abbrev pub command_of : ℕ → Command
command_of n = get_or (Automated ∷ Open ∷ ForceClosed ∷ []) n Automated

abbrev pub override_of : ℕ → Bool
override_of n = get_or (false ∷ true ∷ []) n false

-- what a byte is read as: "last byte not in its list" is refused
abbrev pub command_listed : ℕ → Result Command Refusal
command_listed byte = cond (leb byte 2) (Ok (command_of byte)) (Err NotListed)

abbrev pub request_listed : ℕ → Result Request Refusal
request_listed byte = cond (leb 1 byte && leb byte 3) (Ok (request_of byte)) (Err NotListed)

-- value k, and that of an unsigned field
abbrev pub signed : List ℤ → ℕ → ℤ
signed values k = get_or values k (pos 0)

abbrev pub unsigned : List ℤ → ℕ → ℕ
unsigned values k = nat_abs (signed values k)

abbrev pub reading_of : List ℤ → Reading
reading_of values = record {
  cell0 = mv (unsigned values 1);
  cell1 = mv (unsigned values 2);
  cell2 = mv (unsigned values 3);
  cell3 = mv (unsigned values 4);
  cell4 = mv (unsigned values 5);
  cell5 = mv (unsigned values 6);
  cell6 = mv (unsigned values 7);
  cell7 = mv (unsigned values 8);
  current = ma (signed values 9);
  temperature0 = dc (signed values 10);
  temperature1 = dc (signed values 11);
  temperature2 = dc (signed values 12);
  temperature3 = dc (signed values 13);
}

-- kinds begin at 1
abbrev pub event_of : ℕ → List ℤ → Event
event_of kind values =
    let t = ms (unsigned values 0) in
    let which = unsigned values 1 in
    get_or
    (Measurement t (reading_of values)
    ∷ PowerOn t
    ∷ PowerLoss t
    ∷ ContactorCommand t (command_of which)
    ∷ StateRequest t (request_of which)
    ∷ BattleOverride t (override_of which)
    ∷ ClearLongTerm t
    ∷ []) (kind - 0x01) (PowerOn t)

-- ---- what functions answer

-- what a reader answers: a kind with its values and the next position; "end"; or a number with the position of the kind byte
pub data ReadAnswer : Type 0 where
  found : (kind : ℕ) → (values : List ℤ) → (next : ℕ) → ReadAnswer
  end : ReadAnswer
  refused : (refusal position : ℕ) → ReadAnswer

abbrev pub answer_of_read_event : Result (Option (Event × ℕ)) (Unreadable Refusal) → ReadAnswer
answer_of_read_event (Ok (Some (e, next))) = found (event_kind e) (event_values e) next
answer_of_read_event (Ok None) = end
answer_of_read_event (Err u) = refused (refusal_number u.refusal) u.position

abbrev pub answer_of_read_entry : Result (Option (Entry × ℕ)) (Unreadable Refusal) → ReadAnswer
answer_of_read_entry (Ok (Some (e, next))) = found (entry_kind e) (entry_values e) next
answer_of_read_entry (Ok None) = end
answer_of_read_entry (Err u) = refused (refusal_number u.refusal) u.position

-- what a writer or an export answers: the number of bytes written, or a refusal
pub data WriteAnswer : Type 0 where
  bytes : (count : ℕ) → WriteAnswer
  refused : (refusal : ℕ) → WriteAnswer

abbrev pub answer_of_write : Result ℕ Refusal → WriteAnswer
answer_of_write (Ok n) = bytes n
answer_of_write (Err refusal) = refused (refusal_number refusal)

-- what a fresh record is answered with: the number of its type's refusal, 0 for none, and the record beside it
pub record FreshAnswer : Type 0 where
  pub refusal : ℕ
  pub start : Record

abbrev pub answer_of_fresh : Fresh → FreshAnswer
answer_of_fresh f = record { refusal = number_of f.refusal; start = f.start }

-- what a call is answered with: the number of its refusal, 0 for none, and the record that it leaves. "A refused call alters neither the
-- record nor a lent byte": the caller's is the one before it.
pub record Outcome : Type 0 where
  pub refusal : ℕ
  pub after : Record

abbrev pub outcome_of : Record → Result Record Refusal → Outcome
outcome_of before (Ok after) = record { refusal = 0; after = after }
outcome_of before (Err refusal) = record { refusal = refusal_number refusal; after = before }
