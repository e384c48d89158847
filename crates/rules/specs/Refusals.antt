-- Document 01, "Where each number is raised": the table, a list of (number, condition) for each place, in its order; then the checks of
-- document 02's requests. The first condition that holds gives the answer; 0 where none holds.
use Rattle.std.specs.Prelude.{ℕ, ◌≤◌, Bool, false, not, cond, List, [], ◌∷◌, ltb}
use Rattle.rules.specs.declared.calls.Event.{Event}
use Rattle.rules.specs.declared.calls.Event.TheVariants.{Measurement, PowerOn, PowerLoss, ContactorCommand, StateRequest, BattleOverride, ClearLongTerm}
use Rattle.rules.specs.declared.states.State.{State}
use Rattle.rules.specs.declared.units.Milliseconds.{Milliseconds}
use Rattle.rules.specs.Quantities.{◌<ms◌, mission_time, is_type}
use Rattle.rules.specs.Calls.{time_of}
use Rattle.rules.specs.States.{is_powered, StateMap, request_allowed, command_allowed, override_allowed, clear_allowed}

pub record Check : Type 0 where
  pub refusal : ℕ
  pub condition : Bool

abbrev pub first_of : List Check → ℕ
first_of [] = 0
first_of (c ∷ cs) = cond c.condition c.refusal (first_of cs)

-- ---- a fresh record
abbrev pub fresh_checks : ℕ → List Check
fresh_checks battery = record { refusal = 1; condition = not (is_type battery) } ∷ []

-- ---- a call

-- "power on while powered, or any other call while Unpowered"
abbrev pub is_wrong_power : State → Event → Bool
is_wrong_power s (PowerOn t) = is_powered s
is_wrong_power s (Measurement t r) = not (is_powered s)
is_wrong_power s (PowerLoss t) = not (is_powered s)
is_wrong_power s (ContactorCommand t c) = not (is_powered s)
is_wrong_power s (StateRequest t q) = not (is_powered s)
is_wrong_power s (BattleOverride t on) = not (is_powered s)
is_wrong_power s (ClearLongTerm t) = not (is_powered s)

-- "state request not allowed", by a state map
abbrev pub is_forbidden_by : StateMap → State → Event → Bool
is_forbidden_by map s (StateRequest t q) = not (map s q)
is_forbidden_by map s (Measurement t r) = false
is_forbidden_by map s (PowerOn t) = false
is_forbidden_by map s (PowerLoss t) = false
is_forbidden_by map s (ContactorCommand t c) = false
is_forbidden_by map s (BattleOverride t on) = false
is_forbidden_by map s (ClearLongTerm t) = false

abbrev pub is_forbidden_request : State → Event → Bool
is_forbidden_request s e = is_forbidden_by request_allowed s e

-- "command, override or clear not allowed"
abbrev pub is_forbidden_other : State → ℕ → Event → Bool
is_forbidden_other s commands (ContactorCommand t c) = not (command_allowed s commands c)
is_forbidden_other s commands (BattleOverride t on) = not (override_allowed s)
is_forbidden_other s commands (ClearLongTerm t) = not (clear_allowed s)
is_forbidden_other s commands (Measurement t r) = false
is_forbidden_other s commands (PowerOn t) = false
is_forbidden_other s commands (PowerLoss t) = false
is_forbidden_other s commands (StateRequest t q) = false

-- Rows 6 to 10, by a state map, on a state, a last accepted time and a command count.
abbrev pub call_checks_by : StateMap → State → Milliseconds → ℕ → Event → List Check
call_checks_by map s last commands e =
    record { refusal = 6; condition = time_of e <ms last }
    ∷ record { refusal = 7; condition = mission_time <ms time_of e }
    ∷ record { refusal = 8; condition = is_wrong_power s e }
    ∷ record { refusal = 9; condition = is_forbidden_by map s e }
    ∷ record { refusal = 10; condition = is_forbidden_other s commands e }
    ∷ []

abbrev pub refusal_by : StateMap → State → Milliseconds → ℕ → Event → ℕ
refusal_by map s last commands e = first_of (call_checks_by map s last commands e)

-- by the map in force
unfoldable pub refusal : State → Milliseconds → ℕ → Event → ℕ
refusal s last commands e = refusal_by request_allowed s last commands e

-- a time that neither 6 nor 7 refuses: not below the last accepted time, and not above 345,600,000 ms
pub record InTime (last t : Milliseconds) : Type 0 where
  pub not_below_last : last.0 ≤ t.0
  pub not_above_mission : t.0 ≤ mission_time.0

-- The numbers that the table gives for a call, 0 for an accepted one among them.
pub data CallAnswer : ℕ → Type 0 where
  accepted : CallAnswer 0
  unsound : CallAnswer 5
  time_below_last : CallAnswer 6
  time_above_mission : CallAnswer 7
  wrong_power : CallAnswer 8
  request_not_allowed : CallAnswer 9
  other_not_allowed : CallAnswer 10

-- ---- reading bytes: on whether the kind is unknown to the reader, the body cut short, and the last byte (or the protection number) not
-- in its list
abbrev pub read_checks : Bool → Bool → Bool → List Check
read_checks unknown cut unlisted =
    record { refusal = 2; condition = unknown }
    ∷ record { refusal = 3; condition = cut }
    ∷ record { refusal = 4; condition = unlisted }
    ∷ []

-- ---- writing and export: on the buffer's length and the bytes due

abbrev pub room : ℕ → ℕ → Check
room buffer due = record { refusal = 11; condition = ltb buffer due }

-- an event, of which no field has a list that could be left
abbrev pub event_write_checks : ℕ → ℕ → List Check
event_write_checks buffer due = room buffer due ∷ []

-- a stored record, with its protection number
abbrev pub entry_write_checks : ℕ → ℕ → ℕ → List Check
entry_write_checks protection buffer due = record { refusal = 4; condition = ltb 7 protection } ∷ room buffer due ∷ []

-- an export, on whether the record is sound
abbrev pub export_checks : Bool → ℕ → ℕ → List Check
export_checks sound buffer due = record { refusal = 5; condition = not sound } ∷ room buffer due ∷ []

-- ---- document 02, S-1, a block: on how many events can be read from it, and how many answers its lent buffer has room for

-- "12, more than 1,000 readable events, then 13, answer buffer shorter than the number of readable events"
abbrev pub block_checks : (readable answers : ℕ) → List Check
block_checks readable answers =
    record { refusal = 12; condition = ltb 1_000 readable }
    ∷ record { refusal = 13; condition = ltb answers readable }
    ∷ []

-- The numbers for a block, 0 for one that is taken among them.
pub data BlockAnswer : ℕ → Type 0 where
  taken : BlockAnswer 0
  too_many_events : BlockAnswer 12
  too_few_answers : BlockAnswer 13
