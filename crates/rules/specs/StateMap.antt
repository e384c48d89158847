-- Document 02, S-3, "Maintenance straight to Dormant": what the wider state map moves and what it leaves as it was, sentence by sentence, as
-- named parts. Statements only, over any engine and on any record, reached by a list or not. What is owed after a list of calls is in
-- Claims, which go by the wider map through the ledger.
use Rattle.std.specs.Prelude.{ℕ, ◌≡◌, ◌↔◌, not, cond, ◌&&◌}
use Rattle.rules.specs.declared.units.Milliseconds.{Milliseconds}
use Rattle.rules.specs.declared.states.State.{State}
use Rattle.rules.specs.declared.states.State.TheVariants.{Dormant, Maintenance}
use Rattle.rules.specs.declared.states.Contactor.{Contactor}
use Rattle.rules.specs.declared.calls.Command.TheVariants.{Automated}
use Rattle.rules.specs.declared.calls.Request.{Request}
use Rattle.rules.specs.declared.calls.Request.TheVariants.{Dormant as ToDormant, Operational as ToOperational, Maintenance as ToMaintenance}
use Rattle.rules.specs.declared.calls.Event.{Event}
use Rattle.rules.specs.declared.calls.Event.TheVariants.{StateRequest}
use Rattle.rules.specs.declared.battery.Record.{Record}
use Rattle.rules.specs.Calls.{time_of}
use Rattle.rules.specs.Numbers.{contactor_number}
use Rattle.rules.specs.States.{StateMap, request_listed, requested, is_change, enters_dormant}
use Rattle.rules.specs.Refusals.{refusal_by, refusal, InTime}
use Rattle.rules.specs.Ledger.{Ledger, refused, accept, enter}
use Rattle.rules.specs.Soundness.{Sound}
use Rattle.rules.specs.Claims.{OneCall}

abbrev pub state_of : Record → State
state_of r = r.live.control.state

-- what the table answers on a record by a state map
abbrev pub answer_by : StateMap → Record → Event → ℕ
answer_by map r e = refusal_by map (state_of r) r.live.last r.live.tally.commands e

-- the call is the request `q`, and the state `from`
pub record IsRequest (from : State) (q : Request) (s : State) (e : Event) : Type 0 where
  pub state : s ≡ from
  pub request : e ≡ StateRequest (time_of e) q

-- Dormant in Maintenance, the request that document 02 adds
abbrev pub Shortcut : State → Event → Type 0
Shortcut s e = IsRequest Maintenance ToDormant s e

-- what document 01 says that an accepted request leaves, whole
pub record LeftByRequest (before : Record) (t : Milliseconds) (q : Request) (after : Record) : Type 0 where
  pub state : state_of after ≡ requested q
  -- "A real change of state sets the command to Automated"
  pub command : after.live.control.command ≡ cond (is_change (state_of before) q) Automated before.live.control.command
  -- "entering Dormant also sets override off"
  pub override : after.live.control.overriding ≡ not (enters_dormant (state_of before) q) && before.live.control.overriding
  -- "sets the last time to its own"
  pub last : after.live.last ≡ t
  -- and every other part of the record is as it was
  pub battery : after.live.battery ≡ before.live.battery
  pub watch : after.live.watch ≡ before.live.watch
  pub tally : after.live.tally ≡ before.live.tally
  pub stores : after.stores ≡ before.stores

-- ---- "From now on that request is accepted": in time, on a sound record; and it is a request like the others

abbrev pub ShortcutAccepted : OneCall → Type 0
ShortcutAccepted call =
    (before : Record) (e : Event) (answer : ℕ) (after : Record) → call before e answer after
    → Sound before → Shortcut (state_of before) e → InTime before.live.last (time_of e)
    → (answer ≡ 0) × LeftByRequest before (time_of e) ToDormant after

-- ---- "and means Operational, then Dormant, at the same time": each of the two gets the answer of the one, refusals included, and the two
-- leave what the one leaves. Over anything that has a state and takes calls, so that it covers records, sound or not, and the ledger.

pub record SameAsTwo {A : Type 0} (answer answer₁ answer₂ : ℕ) (after after₂ : A) : Type 0 where
  pub first : answer₁ ≡ answer
  pub second : answer₂ ≡ answer
  pub left : after₂ ≡ after

abbrev pub TwoSteps : {A : Type 0} → (A → State) → (A → Event → ℕ → A → Type 0) → Type 0
TwoSteps {A = A} state call =
    (before : A) → state before ≡ Maintenance → (t : Milliseconds)
    → (answer : ℕ) (after : A) → call before (StateRequest t ToDormant) answer after
    → (answer₁ : ℕ) (between : A) → call before (StateRequest t ToOperational) answer₁ between
    → (answer₂ : ℕ) (after₂ : A) → call between (StateRequest t ToDormant) answer₂ after₂
    → SameAsTwo answer answer₁ answer₂ after after₂

-- the ledger, as what takes calls
abbrev pub Enters : Ledger → Event → ℕ → Ledger → Type 0
Enters l e answer after = (answer ≡ refused l e) × (after ≡ enter l e)

-- and of `accept` by itself, at any time
abbrev pub AcceptedInTwo : Type 0
AcceptedInTwo = (l : Ledger) → l.state ≡ Maintenance → (t : Milliseconds)
    → accept (accept l (StateRequest t ToOperational)) (StateRequest t ToDormant) ≡ accept l (StateRequest t ToDormant)

-- ---- "Requests accepted before are answered as before from the same record": on every sound record, a request that document 01's table
-- accepts is accepted, and leaves what it left

abbrev pub AsBefore : OneCall → Type 0
AsBefore call =
    (before : Record) (t : Milliseconds) (q : Request) (answer : ℕ) (after : Record) → call before (StateRequest t q) answer after
    → Sound before → answer_by request_listed before (StateRequest t q) ≡ 0 → (answer ≡ 0) × LeftByRequest before t q after

-- ---- "and 9 remains for Dormant to Maintenance", in time, and for nothing else

pub record DormantToMaintenance (before : Record) (e : Event) : Type 0 where
  pub request : IsRequest Dormant ToMaintenance (state_of before) e
  pub time : InTime before.live.last (time_of e)

abbrev pub StillNine : OneCall → Type 0
StillNine call =
    (before : Record) (e : Event) (answer : ℕ) (after : Record) → call before e answer after
    → Sound before → (answer ≡ 9) ↔ DormantToMaintenance before e

-- ---- "The contactor rule is read with the wider state map.": after every list of calls that is rules:Claims.ClosedByRule, whose ledger goes by
-- that map. Of one call, on every record: an accepted shortcut leaves the contactor open, whatever command and override were.

abbrev pub ShortcutOpens : OneCall → (Record → Contactor → Type 0) → Type 0
ShortcutOpens call has =
    (before : Record) (e : Event) (answer : ℕ) (after : Record) (contactor : Contactor) → call before e answer after → has after contactor
    → Shortcut (state_of before) e → answer ≡ 0 → contactor_number contactor ≡ 0

-- ---- which answers moved

-- the answer to the shortcut by document 01's map, and by the wider one: 9 becomes 0, 6 and 7 stay, and 8 and 10 are not met
pub data ShortcutAnswers : (earlier now : ℕ) → Type 0 where
  accepted : ShortcutAnswers 9 0
  time_below_last : ShortcutAnswers 6 6
  time_above_mission : ShortcutAnswers 7 7

pub record Widened (s : State) (e : Event) (earlier now : ℕ) : Type 0 where
  pub others : ¬ Shortcut s e → now ≡ earlier
  pub shortcut : Shortcut s e → ShortcutAnswers earlier now

-- of the table: for every state, last time, command count and call
abbrev pub TableWidened : Type 0
TableWidened = (s : State) (last : Milliseconds) (commands : ℕ) (e : Event)
    → Widened s e (refusal_by request_listed s last commands e) (refusal s last commands e)

-- of an engine's answers
abbrev pub AnswersWidened : OneCall → Type 0
AnswersWidened call =
    (before : Record) (e : Event) (answer : ℕ) (after : Record) → call before e answer after
    → Sound before → Widened (state_of before) e (answer_by request_listed before e) answer

-- ---- what an engine owes of it

pub record ByWiderMap (call : OneCall) (has : Record → Contactor → Type 0) : Type 0 where
  pub shortcut_accepted : ShortcutAccepted call
  pub two_steps : TwoSteps state_of call
  pub as_before : AsBefore call
  pub still_nine : StillNine call
  pub shortcut_opens : ShortcutOpens call has
  pub answers_widened : AnswersWidened call
