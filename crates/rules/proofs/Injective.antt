-- No definition of specs/Numbers takes two cases for one: each has a left inverse.
use mathlib.Core.Path.{◌≡◌, refl, sym, ap, ◌∙◌}
use mathlib.Core.Bool.{Bool, true, false}
use mathlib.Core.List.{List, [], ◌∷◌}
use Prim.Native.Nat.{ℕ, ◌-◌}
use lib.IntN.{ℤ}
use lib.ListN.{get_or}
use Rattle.std.specs.Prelude.{Option, None, Some, Result, Ok, Err, unwrap_or}
use Rattle.rules.specs.declared.states.State.{State}
use Rattle.rules.specs.declared.states.State.TheVariants.{Unpowered, Dormant, Operational, Maintenance}
use Rattle.rules.specs.declared.states.TestResult.{TestResult}
use Rattle.rules.specs.declared.states.TestResult.TheVariants.{NotRun, Passed, Failed}
use Rattle.rules.specs.declared.states.Contactor.{Contactor}
use Rattle.rules.specs.declared.states.Contactor.TheVariants.{Open as IsOpen, Closed as IsClosed}
use Rattle.rules.specs.declared.calls.Command.{Command}
use Rattle.rules.specs.declared.calls.Command.TheVariants.{Automated, Open, ForceClosed}
use Rattle.rules.specs.declared.calls.Request.{Request}
use Rattle.rules.specs.declared.calls.Request.TheVariants.{Dormant as ToDormant, Operational as ToOperational, Maintenance as ToMaintenance}
use Rattle.rules.specs.declared.calls.Event.{Event}
use Rattle.rules.specs.declared.calls.Event.TheVariants.{Measurement, PowerOn, PowerLoss, ContactorCommand, StateRequest, BattleOverride, ClearLongTerm}
use Rattle.rules.specs.declared.stores.Entry.{Entry}
use Rattle.rules.specs.declared.stores.Entry.TheVariants.{Trip, Release}
use Rattle.rules.specs.declared.refusals.Refusal.{Refusal}
use Rattle.rules.specs.declared.refusals.Refusal.TheVariants.{UnknownType, UnknownKind, CutShort, NotListed, Unsound, TimeBelowLast, TimeAboveMission, WrongPower, RequestNotAllowed, OtherNotAllowed, NoRoom, TooManyEvents, TooFewAnswers}
use Rattle.rules.specs.declared.answers.Unreadable.{Unreadable}
use Rattle.rules.specs.declared.answers.Fresh.{Fresh}
use Rattle.rules.specs.declared.battery.Record.{Record}
use Rattle.rules.specs.Quantities.{ms}
use Rattle.rules.specs.Numbers.{state_number, request_number, command_number, override_number, test_number, contactor_number, refusal_number, number_of, event_kind, event_values, entry_kind, entry_values, request_of, command_of, override_of, signed, unsigned, event_of, ReadAnswer, found, end, answer_of_read_event, answer_of_read_entry, WriteAnswer, bytes, answer_of_write, answer_of_fresh, Outcome, outcome_of}
use Rattle.rules.specs.Numbers.{WriteAnswer.refused as not_written}

-- a map that can be undone takes no two for one
injective : {A B : Type 0} (f : A → B) (back : B → A) → ((a : A) → back (f a) ≡ a) → (a b : A) → f a ≡ f b → a ≡ b
injective f back undo a b e = sym (undo a) ∙ ap back e ∙ undo b

-- ---- states and settings: the case of a number, by its place in a list

abbrev state_of : ℕ → State
state_of n = get_or (Unpowered ∷ Dormant ∷ Operational ∷ Maintenance ∷ []) n Unpowered

state_of_lem : (s : State) → state_of (state_number s) ≡ s
state_of_lem Unpowered = refl
state_of_lem Dormant = refl
state_of_lem Operational = refl
state_of_lem Maintenance = refl

pub state_injective : (a b : State) → state_number a ≡ state_number b → a ≡ b
state_injective = injective state_number state_of state_of_lem

request_of_lem : (q : Request) → request_of (request_number q) ≡ q
request_of_lem ToDormant = refl
request_of_lem ToOperational = refl
request_of_lem ToMaintenance = refl

pub request_injective : (a b : Request) → request_number a ≡ request_number b → a ≡ b
request_injective = injective request_number request_of request_of_lem

command_of_lem : (c : Command) → command_of (command_number c) ≡ c
command_of_lem Automated = refl
command_of_lem Open = refl
command_of_lem ForceClosed = refl

pub command_injective : (a b : Command) → command_number a ≡ command_number b → a ≡ b
command_injective = injective command_number command_of command_of_lem

override_of_lem : (on : Bool) → override_of (override_number on) ≡ on
override_of_lem false = refl
override_of_lem true = refl

pub override_injective : (a b : Bool) → override_number a ≡ override_number b → a ≡ b
override_injective = injective override_number override_of override_of_lem

abbrev test_of : ℕ → TestResult
test_of n = get_or (NotRun ∷ Passed ∷ Failed ∷ []) n NotRun

test_of_lem : (t : TestResult) → test_of (test_number t) ≡ t
test_of_lem NotRun = refl
test_of_lem Passed = refl
test_of_lem Failed = refl

pub test_injective : (a b : TestResult) → test_number a ≡ test_number b → a ≡ b
test_injective = injective test_number test_of test_of_lem

abbrev contactor_of : ℕ → Contactor
contactor_of n = get_or (IsOpen ∷ IsClosed ∷ []) n IsOpen

contactor_of_lem : (c : Contactor) → contactor_of (contactor_number c) ≡ c
contactor_of_lem IsOpen = refl
contactor_of_lem IsClosed = refl

pub contactor_injective : (a b : Contactor) → contactor_number a ≡ contactor_number b → a ≡ b
contactor_injective = injective contactor_number contactor_of contactor_of_lem

-- ---- refusals: the case of a number, none for 0

abbrev refused_as : ℕ → Option Refusal
refused_as n =
    get_or
    (None
    ∷ Some UnknownType
    ∷ Some UnknownKind
    ∷ Some CutShort
    ∷ Some NotListed
    ∷ Some Unsound
    ∷ Some TimeBelowLast
    ∷ Some TimeAboveMission
    ∷ Some WrongPower
    ∷ Some RequestNotAllowed
    ∷ Some OtherNotAllowed
    ∷ Some NoRoom
    ∷ Some TooManyEvents
    ∷ Some TooFewAnswers
    ∷ []) n None

refused_as_lem : (o : Option Refusal) → refused_as (number_of o) ≡ o
refused_as_lem None = refl
refused_as_lem (Some UnknownType) = refl
refused_as_lem (Some UnknownKind) = refl
refused_as_lem (Some CutShort) = refl
refused_as_lem (Some NotListed) = refl
refused_as_lem (Some Unsound) = refl
refused_as_lem (Some TimeBelowLast) = refl
refused_as_lem (Some TimeAboveMission) = refl
refused_as_lem (Some WrongPower) = refl
refused_as_lem (Some RequestNotAllowed) = refl
refused_as_lem (Some OtherNotAllowed) = refl
refused_as_lem (Some NoRoom) = refl
refused_as_lem (Some TooManyEvents) = refl
refused_as_lem (Some TooFewAnswers) = refl

pub number_injective : (a b : Option Refusal) → number_of a ≡ number_of b → a ≡ b
number_injective = injective number_of refused_as refused_as_lem

-- of a number that is none, the first
abbrev refusal_of : ℕ → Refusal
refusal_of n = unwrap_or (refused_as n) UnknownType

refusal_of_lem : (r : Refusal) → refusal_of (refusal_number r) ≡ r
refusal_of_lem r = ap (λ (o : Option Refusal). unwrap_or o UnknownType) (refused_as_lem (Some r))

pub refusal_injective : (a b : Refusal) → refusal_number a ≡ refusal_number b → a ≡ b
refusal_injective = injective refusal_number refusal_of refusal_of_lem

-- ---- events and entries: from the kind and the values

pub event_of_lem : (e : Event) → event_of (event_kind e) (event_values e) ≡ e
event_of_lem (Measurement t r) = refl
event_of_lem (PowerOn t) = refl
event_of_lem (PowerLoss t) = refl
event_of_lem (ContactorCommand t c) = ap (ContactorCommand t) (command_of_lem c)
event_of_lem (StateRequest t q) = ap (StateRequest t) (request_of_lem q)
event_of_lem (BattleOverride t on) = ap (BattleOverride t) (override_of_lem on)
event_of_lem (ClearLongTerm t) = refl

pub event_injective : (a b : Event) → event_kind a ≡ event_kind b → event_values a ≡ event_values b → a ≡ b
event_injective a b k v = injective {B = ℕ × List ℤ} (λ e. (event_kind e, event_values e)) (λ p. event_of p.0 p.1) event_of_lem a b (λ i. (k i, v i))

-- kinds begin at hex 21
abbrev entry_of : ℕ → List ℤ → Entry
entry_of kind values =
    let t = ms (unsigned values 0) in
    let refusal = unsigned values 1 in
    get_or (Trip t refusal (signed values 2) ∷ Release t refusal ∷ []) (kind - 0x21) (Release t refusal)

entry_of_lem : (e : Entry) → entry_of (entry_kind e) (entry_values e) ≡ e
entry_of_lem (Trip t refusal value) = refl
entry_of_lem (Release t refusal) = refl

pub entry_injective : (a b : Entry) → entry_kind a ≡ entry_kind b → entry_values a ≡ entry_values b → a ≡ b
entry_injective a b k v = injective {B = ℕ × List ℤ} (λ e. (entry_kind e, entry_values e)) (λ p. entry_of p.0 p.1) entry_of_lem a b (λ i. (k i, v i))

-- ---- what functions answer

-- what a reader answers, of values that a kind and its list give
abbrev read_of : {T : Type 0} → (ℕ → List ℤ → T) → ReadAnswer → Result (Option (T × ℕ)) (Unreadable Refusal)
read_of value_of (found kind values next) = Ok (Some (value_of kind values, next))
read_of value_of end = Ok None
read_of value_of (ReadAnswer.refused refusal position) = Err (record { refusal = refusal_of refusal; position = position })

read_event_of_lem : (a : Result (Option (Event × ℕ)) (Unreadable Refusal)) → read_of event_of (answer_of_read_event a) ≡ a
read_event_of_lem (Ok (Some (e, next))) = ap (λ (x : Event). Ok (Some (x, next))) (event_of_lem e)
read_event_of_lem (Ok None) = refl
read_event_of_lem (Err u) = ap (λ (r : Refusal). Err (record { refusal = r; position = u.position })) (refusal_of_lem u.refusal)

pub read_event_injective : (a b : Result (Option (Event × ℕ)) (Unreadable Refusal)) → answer_of_read_event a ≡ answer_of_read_event b → a ≡ b
read_event_injective = injective answer_of_read_event (read_of event_of) read_event_of_lem

read_entry_of_lem : (a : Result (Option (Entry × ℕ)) (Unreadable Refusal)) → read_of entry_of (answer_of_read_entry a) ≡ a
read_entry_of_lem (Ok (Some (e, next))) = ap (λ (x : Entry). Ok (Some (x, next))) (entry_of_lem e)
read_entry_of_lem (Ok None) = refl
read_entry_of_lem (Err u) = ap (λ (r : Refusal). Err (record { refusal = r; position = u.position })) (refusal_of_lem u.refusal)

pub read_entry_injective : (a b : Result (Option (Entry × ℕ)) (Unreadable Refusal)) → answer_of_read_entry a ≡ answer_of_read_entry b → a ≡ b
read_entry_injective = injective answer_of_read_entry (read_of entry_of) read_entry_of_lem

abbrev written_of : WriteAnswer → Result ℕ Refusal
written_of (bytes count) = Ok count
written_of (not_written refusal) = Err (refusal_of refusal)

written_of_lem : (a : Result ℕ Refusal) → written_of (answer_of_write a) ≡ a
written_of_lem (Ok count) = refl
written_of_lem (Err refusal) = ap (λ (r : Refusal). Err r) (refusal_of_lem refusal)

pub write_injective : (a b : Result ℕ Refusal) → answer_of_write a ≡ answer_of_write b → a ≡ b
write_injective = injective answer_of_write written_of written_of_lem

pub fresh_injective : (a b : Fresh) → answer_of_fresh a ≡ answer_of_fresh b → a ≡ b
fresh_injective =
    injective answer_of_fresh
    (λ f. record { refusal = refused_as f.refusal; start = f.start })
    (λ f. ap (λ (o : Option Refusal). record { refusal = o; start = f.start }) (refused_as_lem f.refusal))

-- of a call on one record
abbrev called_by : Record → Option Refusal → Result Record Refusal
called_by after None = Ok after
called_by after (Some refusal) = Err refusal

abbrev called_of : Outcome → Result Record Refusal
called_of o = called_by o.after (refused_as o.refusal)

called_of_lem : (before : Record) (a : Result Record Refusal) → called_of (outcome_of before a) ≡ a
called_of_lem before (Ok after) = refl
called_of_lem before (Err refusal) = ap (called_by before) (refused_as_lem (Some refusal))

pub outcome_injective : (before : Record) (a b : Result Record Refusal) → outcome_of before a ≡ outcome_of before b → a ≡ b
outcome_injective before = injective (outcome_of before) called_of (called_of_lem before)
