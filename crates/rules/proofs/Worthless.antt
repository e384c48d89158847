-- What the claims rule out. Of every engine that meets them, on lists and records so small that what is claimed computes: what it shows
-- after each row of specs/Worthless, what it gives for a type number, what a pair of lists alike but for override leaves, what a call does to
-- an unsound record, and what a request does by the wider state map.
use mathlib.Core.Path.{◌≡◌, refl, sym, ap, subst, ◌∙◌}
use mathlib.Core.Logic.{◌⊎◌, ◌≢◌, inl, inr}
use mathlib.Core.Bool.{true, false, not, cond, ◌&&◌, true≢false}
use mathlib.Core.List.{List, [], ◌∷◌}
use Prim.Native.Nat.{ℕ, ◌<◌}
use native.Mathlib.Omega.{arith}
use lib.Count.{ones}
use lib.Dec.{T, T_not}
use lib.ListN.{length, get_or}
use Rattle.rules.specs.declared.states.Contactor.{Contactor}
use Rattle.rules.specs.declared.states.State.{State}
use Rattle.rules.specs.declared.states.State.TheVariants.{Unpowered, Dormant, Operational, Maintenance}
use Rattle.rules.specs.declared.calls.Command.TheVariants.{Automated}
use Rattle.rules.specs.declared.calls.Request.TheVariants.{Dormant as ToDormant}
use Rattle.rules.specs.declared.calls.Event.{Event}
use Rattle.rules.specs.declared.battery.Record.{Record}
use Rattle.rules.specs.Quantities.{ms, is_type}
use Rattle.rules.specs.Calls.{time_of}
use Rattle.rules.specs.Numbers.{state_number, contactor_number}
use Rattle.rules.specs.States.{is_change, enters_dormant}
use Rattle.rules.specs.Refusals.{refusal, InTime}
use Rattle.rules.specs.Test.{plausible, failed_mask, failed_count}
use Rattle.rules.specs.Protections.{extremes, permitted, row_of}
use Rattle.rules.specs.Ledger.{ledger, TrippedOn, is_tripped_on}
use Rattle.rules.specs.Contactor.{Closed, InForce, AllLiftable, NoneTripped, is_closed}
use Rattle.rules.specs.Lists.{Each, none, ◌and◌}
use Rattle.rules.specs.Alike.{Alike, none as no_calls, same, switched}
use Rattle.rules.specs.Soundness.{Sound}
use Rattle.rules.specs.Shared.{shown_by}
use Rattle.rules.specs.Claims.{type_or1, Engine, AfterList, AfterEveryList, TwoRuns, AnyTwoLists, Starter, OfEveryType, OneCall, OnEveryRecord}
use Rattle.rules.specs.StateMap.{ByWiderMap}
use Rattle.rules.specs.Worthless.{Seen, cells_of, to_dormant, to_operational, to_maintenance, low_cells_under, low_cell_trip, Row, Shows, rows}
use Rattle.rules.proofs.Lists.{at_index}
use Rattle.rules.proofs.Decide.{is_tripped_lem}
use Rattle.rules.proofs.Closing.{is_closed_lem}

-- ---- tests that compute, where the rules have propositions

tripped_on : (battery protection : ℕ) (calls : List Event) → T (is_tripped_on battery (ledger calls) protection) → TrippedOn battery (ledger calls) protection
tripped_on battery protection calls h = (is_tripped_lem (row_of battery protection) (ledger calls).measured).0 h

not_tripped_on : (battery protection : ℕ) (calls : List Event) → T (not (is_tripped_on battery (ledger calls) protection)) → ¬ TrippedOn battery (ledger calls) protection
not_tripped_on battery protection calls h t =
    T_not (is_tripped_on battery (ledger calls) protection) h ((is_tripped_lem (row_of battery protection) (ledger calls).measured).1 t)

closed_on : (battery : ℕ) (calls : List Event) → T (is_closed battery (ledger calls)) → Closed battery (ledger calls)
closed_on battery calls h = (is_closed_lem battery (ledger calls)).0 h

not_closed_on : (battery : ℕ) (calls : List Event) → T (not (is_closed battery (ledger calls))) → ¬ Closed battery (ledger calls)
not_closed_on battery calls h c = T_not (is_closed battery (ledger calls)) h ((is_closed_lem battery (ledger calls)).1 c)

-- ---- after each row

abbrev Owes : Row → Type 0
Owes r = (answers : List ℕ) (after : Record) (contactor : Contactor) → AfterList (type_or1 r.battery) r.calls answers after contactor
    → Each (Seen answers after contactor) r.shows

-- what computes on the ledger is seen
module _ {battery : ℕ} {calls : List Event} {answers : List ℕ} {after : Record} {contactor : Contactor}
    (owed : AfterList battery calls answers after contactor) where
  trips : (protection : ℕ) → protection < 8 → T (is_tripped_on battery (ledger calls) protection) → (shown_by after).tripped protection
  trips protection h t = (owed.shared.tripped protection h).1 (tripped_on battery protection calls t)

  clears : (protection : ℕ) → protection < 8 → T (not (is_tripped_on battery (ledger calls) protection)) → ¬ (shown_by after).tripped protection
  clears protection h t shown = not_tripped_on battery protection calls t ((owed.shared.tripped protection h).0 shown)

  closes : T (is_closed battery (ledger calls)) → contactor_number contactor ≡ 1
  closes h = owed.closed.1 (closed_on battery calls h)

  opens : T (not (is_closed battery (ledger calls))) → contactor_number contactor ≢ 1
  opens h shown = not_closed_on battery calls h (owed.closed.0 shown)

each_row : Each Owes rows
unfolding rows refusal plausible failed_mask failed_count ones extremes permitted row_of is_closed
each_row =
    (λ answers after contactor owed. owed.answered and owed.shared.state and owed.last and none)
    and (λ answers after contactor owed. owed.answered and owed.shared.state and owed.shared.test and closes owed tt and none)
    and (λ answers after contactor owed. owed.answered and owed.shared.state and none)
    and (λ answers after contactor owed. owed.shared.commands and owed.shared.command and none)
    and (λ answers after contactor owed. owed.shared.failed_mask and owed.shared.failed_count and owed.shared.test and none)
    and (λ answers after contactor owed. owed.shared.charged and owed.shared.discharged and none)
    and (λ answers after contactor owed.
    owed.override
    and trips owed 1 (omega arith) tt
    and clears owed 0 (omega arith) tt
    and owed.shared.long_term
    and owed.shared.short_term
    and closes owed tt
    and none)
    and (λ answers after contactor owed. owed.shared.state and owed.shared.command and trips owed 1 (omega arith) tt and opens owed tt and none)
    and (λ answers after contactor owed. clears owed 0 (omega arith) tt and owed.shared.long_term and none)
    and (λ answers after contactor owed. trips owed 0 (omega arith) tt and owed.shared.short_term and none)
    and (λ answers after contactor owed. owed.shared.long_term and owed.shared.short_term and none)
    and (λ answers after contactor owed. owed.battery_type and owed.answered and none)
    and (λ answers after contactor owed. owed.shared.state and owed.shared.command and owed.override and closes owed tt and none)
    and (λ answers after contactor owed.
    owed.answered
    and owed.shared.state
    and owed.shared.command
    and owed.override
    and owed.shared.test
    and opens owed tt
    and none)
    and (λ answers after contactor owed. owed.shared.charged and owed.shared.discharged and none)
    and (λ answers after contactor owed. owed.shared.charged and owed.shared.discharged and none)
    and (λ answers after contactor owed. owed.shared.charged and owed.shared.discharged and none)
    and none

pub shows : (engine : Engine) → AfterEveryList engine → (i : ℕ) → i < length rows → (d : Row) → Shows engine (get_or rows i d)
shows engine claims i h d answers after contactor run = at_index each_row i h d answers after contactor (claims _ _ _ _ _ run)

-- ---- the numbers of type numbers, and the record beside 1

module _ (starter : Starter) (claims : OfEveryType starter) (answer : ℕ) (start : Record) where
  pub type_0_gets_1 : starter 0 answer start → (answer ≡ 1) × starter 1 0 start
  type_0_gets_1 starts = let owed = claims _ _ _ starts in (owed.refusal, owed.of_its_type)

  pub type_3_gets_0 : starter 3 answer start → (answer ≡ 0) × (start.live.battery ≡ 3)
  type_3_gets_0 starts = let owed = claims _ _ _ starts in (owed.refusal, owed.empty.battery_type)

  pub type_4_gets_1 : starter 4 answer start → (answer ≡ 1) × starter 1 0 start
  type_4_gets_1 starts = let owed = claims _ _ _ starts in (owed.refusal, owed.of_its_type)

-- ---- two lists alike but for override: one trip, held off the contactor in the first run alone

module _
    (engine : Engine)
    (claims : AnyTwoLists engine)
    (given₁ given₂ : List ℕ)
    (after₁ after₂ : Record)
    (contactor₁ contactor₂ : Contactor)
    (run₁ : engine 1 (low_cells_under true) given₁ after₁ contactor₁)
    (run₂ : engine 1 (low_cells_under false) given₂ after₂ contactor₂) where
  alike : Alike (low_cells_under true) (low_cells_under false)
  alike = same _ (same _ (switched _ true false (same _ (same _ no_calls))))

  owed : TwoRuns 1 (low_cells_under true) (low_cells_under false) given₁ given₂ after₁ after₂ contactor₁ contactor₂
  owed = claims 1 _ _ alike _ _ _ _ _ _ run₁ run₂

  pub accepted_in_the_second : given₂ ≡ 0 ∷ 0 ∷ 0 ∷ 0 ∷ 0 ∷ []
  unfolding refusal
  accepted_in_the_second = sym owed.same_answers ∙ owed.answered₁

  pub operational_in_the_second : (shown_by after₂).state ≡ 2
  unfolding refusal
  operational_in_the_second = sym owed.shared.state ∙ owed.by_rules₁.shared.state

  pub tripped_in_the_second : (shown_by after₂).tripped 1
  unfolding refusal plausible extremes permitted row_of
  tripped_in_the_second = (owed.shared.tripped 1 (omega arith)).0 ((owed.by_rules₁.shared.tripped 1 (omega arith)).1 (tripped_on 1 1 (low_cells_under true) tt))

  pub recorded_in_the_second : (shown_by after₂).long_term ≡ low_cell_trip
  unfolding refusal plausible extremes permitted row_of
  recorded_in_the_second = sym owed.shared.long_term ∙ owed.by_rules₁.shared.long_term

  pub closed_in_the_first : contactor_number contactor₁ ≡ 1
  unfolding refusal plausible extremes permitted row_of is_closed
  closed_in_the_first = owed.closed₁.1 (closed_on 1 (low_cells_under true) tt)

  pub open_in_the_second : contactor_number contactor₂ ≢ 1
  unfolding refusal plausible extremes permitted row_of is_closed
  open_in_the_second h = not_closed_on 1 (low_cells_under false) tt (owed.closed₂.0 h)

  pub contactors_differ : contactor_number contactor₁ ≢ contactor_number contactor₂
  unfolding refusal plausible extremes permitted row_of is_closed
  contactors_differ =
      owed.contactors_differ.1
      (record { just_one = true≢false; permits = closed.permits; some = (1, omega arith, one); all_liftable = liftable closed.protections })
    where
      closed : Closed 1 (ledger (low_cells_under true))
      closed = closed_on 1 (low_cells_under true) tt

      one : TrippedOn 1 (ledger (low_cells_under true)) 1
      one = tripped_on 1 1 (low_cells_under true) tt

      liftable : (AllLiftable 1 (ledger (low_cells_under true)) × InForce (ledger (low_cells_under true))) ⊎ NoneTripped 1 (ledger (low_cells_under true))
          → AllLiftable 1 (ledger (low_cells_under true))
      liftable (inl held) = held.0
      liftable (inr clear) = absurd (clear 1 (omega arith) one)

-- ---- one call: a record of type 4, and an unpowered one

module _ (call : OneCall) (claims : OnEveryRecord call) (before : Record) (answer : ℕ) (after : Record) where
  abbrev Called : Type 0
  Called = call before (cells_of 0 3_300) answer after

  five : Called → before.live.battery ≡ 4 → answer ≡ 5
  five called type =
      let unsound : ¬ Sound before = λ s. subst (λ (b : ℕ). T (is_type b)) type s.battery in
      (claims _ _ _ _ called).unsound.1 unsound

  pub type_4_is_unsound : Called → before.live.battery ≡ 4 → (answer ≡ 5) × (after ≡ before)
  type_4_is_unsound called type =
      (five called type, (claims _ _ _ _ called).unchanged (λ z. let no : ◌≡◌ {A = ℕ} 5 0 = sym (five called type) ∙ z in omega (arith, no)))

  pub unpowered_refuses : Called → Sound before → before.live.control.state ≡ Unpowered → before.live.last ≡ ms 0 → (answer ≡ 8) × (after ≡ before)
  unfolding refusal
  unpowered_refuses called s off start = (eight, (claims _ _ _ _ called).unchanged (λ z. let no : ◌≡◌ {A = ℕ} 8 0 = sym eight ∙ z in omega (arith, no)))
    where
      eight : answer ≡ 8
      eight = (claims _ _ _ _ called).by_table s ∙ rw (off, start) refl

-- ---- document 02, S-3: one call at time 0 on a sound record at last time 0

module _ (r : Record) (from : State) (is : r.live.control.state ≡ from) (enters : is_change from ToDormant ≡ true) where
  reset : cond (is_change r.live.control.state ToDormant) Automated r.live.control.command ≡ Automated
  reset = rw (is, enters) refl

  off : not (enters_dormant r.live.control.state ToDormant) && r.live.control.overriding ≡ false
  off = rw (is, enters) refl

module _ (call : OneCall) (has : Record → Contactor → Type 0) (claims : ByWiderMap call has) (before : Record) (s : Sound before) (start : before.live.last ≡ ms 0) where
  at_0 : (e : Event) → time_of e ≡ ms 0 → InTime before.live.last (time_of e)
  at_0 e at = rw (start, at) (record { not_below_last = omega arith; not_above_mission = omega arith })

  -- the shortcut: 0, Automated and override off
  pub shortcut_gets_0 : (answer : ℕ) (after : Record) → call before to_dormant answer after → before.live.control.state ≡ Maintenance
      → (answer ≡ 0) × (after.live.control.command ≡ Automated) × (after.live.control.overriding ≡ false)
  shortcut_gets_0 answer after called is =
      let (accepted, left) = claims.shortcut_accepted before to_dormant answer after called s (record { state = is; request = refl }) (at_0 to_dormant refl) in
      (accepted, left.command ∙ reset before Maintenance is refl, left.override ∙ off before Maintenance is refl)

  -- once accepted, it opens the contactor
  pub shortcut_leaves_it_open : (answer : ℕ) (after : Record) (contactor : Contactor) → call before to_dormant answer after → has after contactor
      → before.live.control.state ≡ Maintenance → contactor_number contactor ≡ 0
  shortcut_leaves_it_open answer after contactor called shown is =
      claims.shortcut_opens before to_dormant answer after contactor called shown (record { state = is; request = refl })
      (shortcut_gets_0 answer after called is).0

  -- the two get 0 as well, and leave one record
  pub two_get_0 : (answer : ℕ) (after : Record) → call before to_dormant answer after → before.live.control.state ≡ Maintenance
      → (answer₁ : ℕ) (between : Record) → call before to_operational answer₁ between
      → (answer₂ : ℕ) (after₂ : Record) → call between to_dormant answer₂ after₂
      → (answer₁ ≡ 0) × (answer₂ ≡ 0) × (after₂ ≡ after)
  two_get_0 answer after called is answer₁ between called₁ answer₂ after₂ called₂ =
      let same = claims.two_steps before is (ms 0) answer after called answer₁ between called₁ answer₂ after₂ called₂ in
      let zero = (shortcut_gets_0 answer after called is).0 in
      (same.first ∙ zero, same.second ∙ zero, same.left)

  pub dormant_keeps_9 : (answer : ℕ) (after : Record) → call before to_maintenance answer after → before.live.control.state ≡ Dormant → answer ≡ 9
  dormant_keeps_9 answer after called is =
      (claims.still_nine before to_maintenance answer after called s).1
      (record { request = record { state = is; request = refl }; time = at_0 to_maintenance refl })

  -- and no other request gets it: Operational goes to Maintenance
  pub operational_to_maintenance_gets_0 : (answer : ℕ) (after : Record) → call before to_maintenance answer after → before.live.control.state ≡ Operational → answer ≡ 0
  operational_to_maintenance_gets_0 answer after called is =
      (claims.answers_widened before to_maintenance answer after called s).others (λ other. differ (sym is ∙ other.state)) ∙ rw (is, start) refl
    where
      differ : ¬ (Operational ≡ Maintenance)
      differ h = let no : ◌≡◌ {A = ℕ} 2 3 = ap state_number h in omega (arith, no)

  -- Operational to Dormant, as before: Automated, override off, and what else the record holds as it was
  pub operational_to_dormant : (answer : ℕ) (after : Record) → call before to_dormant answer after → before.live.control.state ≡ Operational
      → (answer ≡ 0)
      × (after.live.control.state ≡ Dormant)
      × (after.live.control.command ≡ Automated)
      × (after.live.control.overriding ≡ false)
      × (after.live.last ≡ ms 0)
      × (after.live.battery ≡ before.live.battery)
      × (after.live.watch ≡ before.live.watch)
      × (after.live.tally ≡ before.live.tally)
      × (after.stores ≡ before.stores)
  operational_to_dormant answer after called is =
      let (accepted, left) = claims.as_before before (ms 0) ToDormant answer after called s (rw (is, start) refl) in
      (accepted, left.state, left.command ∙ reset before Operational is refl, left.override ∙ off before Operational is refl, left.last, left.battery, left.watch, left.tally, left.stores)

-- "number 5 never arises": on what a list leaves
pub never_5 : (engine : Engine) → AfterEveryList engine → (call : OneCall) → OnEveryRecord call
    → (battery : ℕ) (calls : List Event) (given : List ℕ) (before : Record) (contactor : Contactor) → engine battery calls given before contactor
    → (e : Event) (answer : ℕ) (after : Record) → call before e answer after → answer ≢ 5
never_5 engine lists call calls-owe battery calls given before contactor run e answer after called is =
    (calls-owe before e answer after called).unsound.0 is (lists battery calls given before contactor run).sound
