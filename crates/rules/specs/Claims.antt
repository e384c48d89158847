-- What an engine owes: every clause of the demands of 00-mission.md that is about calls and records, as a named part. Statements only,
-- over any engine; the proofs are elsewhere, for the definition of one call and for the code.
use Rattle.std.specs.Prelude.{ℕ, ◌≡◌, ◌↔◌, ◌≢◌, cond, List, []}
use Rattle.rules.specs.declared.states.Contactor.{Contactor}
use Rattle.rules.specs.declared.states.Contactor.TheVariants.{Open}
use Rattle.rules.specs.declared.calls.Event.{Event}
use Rattle.rules.specs.declared.battery.Record.{Record}
use Rattle.rules.specs.Quantities.{is_type}
use Rattle.rules.specs.Numbers.{override_number, contactor_number}
use Rattle.rules.specs.Refusals.{first_of, fresh_checks, refusal, CallAnswer}
use Rattle.rules.specs.Ledger.{ledger, refusals}
use Rattle.rules.specs.Contactor.{Closed, ContactorsDiffer}
use Rattle.rules.specs.Alike.{Alike}
use Rattle.rules.specs.Soundness.{Sound}
use Rattle.rules.specs.Shared.{shown_by, ruled_for, Agree}

-- the type that a fresh record has: type 1 beside number 1
abbrev pub type_or1 : ℕ → ℕ
type_or1 battery = cond (is_type battery) battery 1

-- An engine, as what its runs may be: from the fresh record of a type number, known or not, through a list of calls, the numbers that it
-- answers call by call, the record that it leaves and the contactor that it then has.
abbrev pub Engine : Type 1
Engine = (battery : ℕ) → (calls : List Event) → (answers : List ℕ) → (after : Record) → (contactor : Contactor) → Type 0

-- "as document 01's ledger of each run has it"
abbrev pub Answered : List Event → List ℕ → Type 0
Answered calls answers = answers ≡ refusals calls

-- "the contactor is closed exactly when document 01's contactor rule, worked out on the ledger of that run's type and list alone, says so"
abbrev pub ClosedByRule : ℕ → List Event → Contactor → Type 0
ClosedByRule battery calls contactor = (contactor_number contactor ≡ 1) ↔ Closed battery (ledger calls)

-- ---- demand 2: "After every list of calls the record shows what document 01 lays down"

pub record AfterList (battery : ℕ) (calls : List Event) (answers : List ℕ) (after : Record) (contactor : Contactor) : Type 0 where
  pub answered : Answered calls answers
  pub battery_type : after.live.battery ≡ battery
  pub override : override_number after.live.control.overriding ≡ override_number (ledger calls).override
  pub last : after.live.last ≡ (ledger calls).last
  -- state, command, tripped protections, test, failed sensors, accounts, command count, stores
  pub shared : Agree (shown_by after) (ruled_for battery calls)
  pub sound : Sound after
  pub closed : ClosedByRule battery calls contactor

abbrev pub AfterEveryList : Engine → Type 0
AfterEveryList engine =
    (battery : ℕ) (calls : List Event) (answers : List ℕ) (after : Record) (contactor : Contactor)
    → engine battery calls answers after contactor → AfterList (type_or1 battery) calls answers after contactor

-- ---- demand 3, about two whole lists

pub record TwoRuns
    (battery : ℕ)
    (calls₁ calls₂ : List Event)
    (answers₁ answers₂ : List ℕ)
    (after₁ after₂ : Record)
    (contactor₁ contactor₂ : Contactor)
    : Type 0 where
  -- "each call gets the same refusal in both runs, or is accepted in both, as document 01's ledger of each run has it"
  pub same_answers : answers₁ ≡ answers₂
  pub answered₁ : Answered calls₁ answers₁
  pub answered₂ : Answered calls₂ answers₂
  -- "the same state, command, tripped protections, test result, failed sensors, charge accounts, command count and fault stores"
  pub shared : Agree (shown_by after₁) (shown_by after₂)
  -- "each as document 01 lays it down for either list"
  pub by_rules₁ : AfterList battery calls₁ answers₁ after₁ contactor₁
  pub by_rules₂ : AfterList battery calls₂ answers₂ after₂ contactor₂
  -- "Their contactors differ exactly when override is in force in just one run, state, command and test permit closing, and one or more
  -- protections are tripped, all of them liftable."
  pub contactors_differ : (contactor_number contactor₁ ≢ contactor_number contactor₂) ↔ ContactorsDiffer battery (ledger calls₁) (ledger calls₂)
  -- "In either run the contactor is closed exactly when document 01's contactor rule .. says so."
  pub closed₁ : ClosedByRule battery calls₁ contactor₁
  pub closed₂ : ClosedByRule battery calls₂ contactor₂

abbrev pub AnyTwoLists : Engine → Type 0
AnyTwoLists engine =
    (battery : ℕ) (calls₁ calls₂ : List Event) → Alike calls₁ calls₂
    → (answers₁ answers₂ : List ℕ) (after₁ after₂ : Record) (contactor₁ contactor₂ : Contactor)
    → engine battery calls₁ answers₁ after₁ contactor₁ → engine battery calls₂ answers₂ after₂ contactor₂
    → TwoRuns (type_or1 battery) calls₁ calls₂ answers₁ answers₂ after₁ after₂ contactor₁ contactor₂

-- ---- demand 1, for a fresh record of any type number

-- What an engine may give for a type number: the answer, and the record beside it.
abbrev pub Starter : Type 1
Starter = (battery : ℕ) → (answer : ℕ) → (start : Record) → Type 0

pub record FreshOf (starter : Starter) (battery answer : ℕ) (start : Record) : Type 0 where
  pub refusal : answer ≡ first_of (fresh_checks battery)
  -- "A fresh record has a type, is Unpowered (0), last time 0, everything empty.": what is owed after no call
  pub empty : AfterList (type_or1 battery) [] [] start Open
  -- "beside it the fresh record of type 1", whole: the type's own number gets this record with 0, and no other
  pub of_its_type : starter (type_or1 battery) 0 start
  pub no_other : (answer₁ : ℕ) (start₁ : Record) → starter (type_or1 battery) answer₁ start₁ → start₁ ≡ start

abbrev pub OfEveryType : Starter → Type 0
OfEveryType starter = (battery answer : ℕ) (start : Record) → starter battery answer start → FreshOf starter battery answer start

-- ---- demand 1, for a call: on any record, reached by a list or not

-- What an engine may do with one call on a record: the number that it answers, and the record that it leaves.
abbrev pub OneCall : Type 1
OneCall = (before : Record) → (e : Event) → (answer : ℕ) → (after : Record) → Type 0

pub record Refused (before : Record) (e : Event) (answer : ℕ) (after : Record) : Type 0 where
  -- "The answer to every call .. is a result or one refusal number of document 01"
  pub listed : CallAnswer answer
  -- 5, exactly for an unsound record
  pub unsound : (answer ≡ 5) ↔ (¬ Sound before)
  -- 6 to 10, on a sound one, by the table on its own state, last time and command count
  pub by_table : Sound before
      → answer ≡ refusal before.live.control.state before.live.last before.live.tally.commands e
  -- "a refused call alters neither the record nor a lent byte"
  pub unchanged : answer ≢ 0 → after ≡ before

abbrev pub OnEveryRecord : OneCall → Type 0
OnEveryRecord call =
    (before : Record) (e : Event) (answer : ℕ) (after : Record) → call before e answer after → Refused before e answer after
