-- Document 02, S-3, of the rules: which answers of the table the wider state map moves, that 9 is for one request alone, and that on the
-- ledger the one request is the two. An engine whose answers are the table's (rules:Claims.OnEveryRecord) owes the former of its own.
use mathlib.Core.Path.{◌≡◌, refl, sym, ap, ◌∙◌}
use mathlib.Core.Logic.{◌↔◌}
use mathlib.Core.Bool.{Bool, true, false, not, cond, or-false, true≢false}
use Prim.Native.Nat.{ℕ, zero, suc}
use native.Mathlib.Omega.{arith}
use borrow.Author.Tests.{ltb-false}
use Rattle.rules.specs.declared.units.Milliseconds.{Milliseconds}
use Rattle.rules.specs.declared.states.State.{State}
use Rattle.rules.specs.declared.states.State.TheVariants.{Unpowered, Dormant, Operational, Maintenance}
use Rattle.rules.specs.declared.calls.Request.{Request}
use Rattle.rules.specs.declared.calls.Request.TheVariants.{Dormant as ToDormant, Operational as ToOperational, Maintenance as ToMaintenance}
use Rattle.rules.specs.declared.calls.Event.{Event}
use Rattle.rules.specs.declared.calls.Event.TheVariants.{Measurement, PowerOn, PowerLoss, ContactorCommand, StateRequest, BattleOverride, ClearLongTerm}
use Rattle.rules.specs.declared.battery.Record.{Record}
use Rattle.rules.specs.Quantities.{◌<ms◌, mission_time}
use Rattle.rules.specs.Calls.{time_of}
use Rattle.rules.specs.States.{is_powered, request_listed, request_allowed}
use Rattle.rules.specs.Refusals.{is_wrong_power, is_forbidden_by, is_forbidden_other, refusal_by, refusal, InTime}
use Rattle.rules.specs.Ledger.{refused, accept, if_accepted}
use Rattle.rules.specs.Soundness.{Sound}
use Rattle.rules.specs.Claims.{OneCall, OnEveryRecord}
use Rattle.rules.specs.StateMap.{state_of, IsRequest, Shortcut, SameAsTwo, TwoSteps, Enters, AcceptedInTwo, StillNine, ShortcutAnswers, ShortcutAnswers.accepted, ShortcutAnswers.time_below_last, ShortcutAnswers.time_above_mission, TableWidened, AnswersWidened}
use Rattle.rules.proofs.CallTable.{in_time, neither_6_nor_7, request_accepted}

-- ---- the maps

-- they differ in one place
same_map : (s : State) (q : Request) → ¬ ((s ≡ Maintenance) × (q ≡ ToDormant)) → request_allowed s q ≡ request_listed s q
same_map Unpowered q h = or-false (request_listed Unpowered q)
same_map Dormant q h = or-false (request_listed Dormant q)
same_map Operational q h = or-false (request_listed Operational q)
same_map Maintenance ToDormant h = absurd (h (refl, refl))
same_map Maintenance ToOperational h = refl
same_map Maintenance ToMaintenance h = refl

same_forbidden : (s : State) (e : Event) → ¬ Shortcut s e → is_forbidden_by request_allowed s e ≡ is_forbidden_by request_listed s e
same_forbidden s (StateRequest t q) h = ap not (same_map s q (λ is. h (record { state = is.0; request = ap (StateRequest t) is.1 })))
same_forbidden s (Measurement t r) h = refl
same_forbidden s (PowerOn t) h = refl
same_forbidden s (PowerLoss t) h = refl
same_forbidden s (ContactorCommand t c) h = refl
same_forbidden s (BattleOverride t on) h = refl
same_forbidden s (ClearLongTerm t) h = refl

-- ---- the table

moved : (early late : Bool) → ShortcutAnswers (cond early 6 (cond late 7 9)) (cond early 6 (cond late 7 0))
moved true late = time_below_last
moved false true = time_above_mission
moved false false = accepted

pub table_widened : TableWidened
unfolding refusal
table_widened s last commands e = record {
  others = λ h. rw (same_forbidden s e h) refl;
  shortcut = λ h. rw (h.state, h.request) (moved (time_of e <ms last) (mission_time <ms time_of e));
}

-- what document 01's table accepts, the table accepts
never_accepted : (a b c : Bool) → ◌≡◌ {A = ℕ} (cond a 6 (cond b 7 (cond c 8 9))) 0 → ⊥
never_accepted true b c z = omega (arith, z)
never_accepted false true c z = omega (arith, z)
never_accepted false false true z = omega (arith, z)
never_accepted false false false z = omega (arith, z)

pub still_accepted : (s : State) (last : Milliseconds) (commands : ℕ) (t : Milliseconds) (q : Request)
    → refusal_by request_listed s last commands (StateRequest t q) ≡ 0 → refusal s last commands (StateRequest t q) ≡ 0
unfolding refusal
still_accepted s last commands t q z = go (request_listed s q) refl
  where
    go : (b : Bool) → request_listed s q ≡ b → refusal_by request_allowed s last commands (StateRequest t q) ≡ 0
    go true h = rw h (rw h at z)
    go false h = absurd (never_accepted (t <ms last) (mission_time <ms t) (not (is_powered s)) (rw h at z))

-- the first of the table's conditions that holds is that of 9
first_nine : (a b c d f : Bool) → ◌≡◌ {A = ℕ} (cond a 6 (cond b 7 (cond c 8 (cond d 9 (cond f 10 0))))) 9
    → (a ≡ false) × (b ≡ false) × (c ≡ false) × (d ≡ true)
first_nine true b c d f h = absurd (omega (arith, h))
first_nine false true c d f h = absurd (omega (arith, h))
first_nine false false true d f h = absurd (omega (arith, h))
first_nine false false false true f h = (refl, refl, refl, refl)
first_nine false false false false true h = absurd (omega (arith, h))
first_nine false false false false false h = absurd (omega (arith, h))

only_forbidden : (s : State) (q : Request) → not (is_powered s) ≡ false → not (request_allowed s q) ≡ true → (s ≡ Dormant) × (q ≡ ToMaintenance)
only_forbidden Unpowered q p h = absurd (true≢false p)
only_forbidden Dormant ToDormant p h = absurd (true≢false (sym h))
only_forbidden Dormant ToOperational p h = absurd (true≢false (sym h))
only_forbidden Dormant ToMaintenance p h = (refl, refl)
only_forbidden Operational ToDormant p h = absurd (true≢false (sym h))
only_forbidden Operational ToOperational p h = absurd (true≢false (sym h))
only_forbidden Operational ToMaintenance p h = absurd (true≢false (sym h))
only_forbidden Maintenance ToDormant p h = absurd (true≢false (sym h))
only_forbidden Maintenance ToOperational p h = absurd (true≢false (sym h))
only_forbidden Maintenance ToMaintenance p h = absurd (true≢false (sym h))

is_forbidden : (s : State) (e : Event) → is_wrong_power s e ≡ false → is_forbidden_by request_allowed s e ≡ true → IsRequest Dormant ToMaintenance s e
is_forbidden s (StateRequest t q) p h = let is = only_forbidden s q p h in record { state = is.0; request = ap (StateRequest t) is.1 }
is_forbidden s (Measurement t r) p h = absurd (true≢false (sym h))
is_forbidden s (PowerOn t) p h = absurd (true≢false (sym h))
is_forbidden s (PowerLoss t) p h = absurd (true≢false (sym h))
is_forbidden s (ContactorCommand t c) p h = absurd (true≢false (sym h))
is_forbidden s (BattleOverride t on) p h = absurd (true≢false (sym h))
is_forbidden s (ClearLongTerm t) p h = absurd (true≢false (sym h))

table_nine : (s : State) (last : Milliseconds) (commands : ℕ) (e : Event)
    → (refusal s last commands e ≡ 9) ↔ (IsRequest Dormant ToMaintenance s e × InTime last (time_of e))
unfolding refusal
table_nine s last commands e = (of_nine, nine_of)
  where
    of_nine : refusal_by request_allowed s last commands e ≡ 9 → IsRequest Dormant ToMaintenance s e × InTime last (time_of e)
    of_nine h =
        let (early, late, off, forbidden) =
        first_nine (time_of e <ms last) (mission_time <ms time_of e) (is_wrong_power s e) (is_forbidden_by request_allowed s e) (is_forbidden_other s commands e) h in
        (is_forbidden s e off forbidden, record { not_below_last = ltb-false _ _ early; not_above_mission = ltb-false _ _ late })

    nine_of : IsRequest Dormant ToMaintenance s e × InTime last (time_of e) → refusal_by request_allowed s last commands e ≡ 9
    nine_of (is, h) = rw (is.state, is.request, (neither_6_nor_7 h).0, (neither_6_nor_7 h).1) refl

-- ---- of every engine whose answers are the table's

module _ (call : OneCall) (claims : OnEveryRecord call) where
  -- the answer that ShortcutAccepted asks for
  pub shortcut_gets_0 : (before : Record) (e : Event) (answer : ℕ) (after : Record) → call before e answer after
      → Sound before → Shortcut (state_of before) e → InTime before.live.last (time_of e) → answer ≡ 0
  shortcut_gets_0 before e answer after called sound is h =
      (claims before e answer after called).by_table sound
      ∙ rw (is.state, is.request) (request_accepted Maintenance before.live.last before.live.tally.commands (time_of e) ToDormant refl refl h)

  pub still_nine : StillNine call
  still_nine before e answer after called sound =
      let nine = table_nine (state_of before) before.live.last before.live.tally.commands e in
      let same = (claims before e answer after called).by_table sound in (
        λ is. let (request, time) = nine.0 (sym same ∙ is) in record { request = request; time = time },
        λ d. same ∙ nine.1 (d.request, d.time),
      )

  pub answers_widened : AnswersWidened call
  answers_widened before e answer after called sound =
      rw ((claims before e answer after called).by_table sound) (table_widened (state_of before) before.live.last before.live.tally.commands e)

-- ---- the one request, and the two: of whatever answers a call by a number and, where that is 0, goes on to the next

module _ {A : Type 0} (number : A → Event → ℕ) (next : A → Event → A) where
  abbrev pub Takes : A → Event → ℕ → A → Type 0
  Takes x e answer after = (answer ≡ number x e) × (after ≡ if_accepted (number x e) (next x e) x)

  module _ (x : A) (t : Milliseconds) where
    abbrev to_dormant : Event
    to_dormant = StateRequest t ToDormant

    abbrev to_operational : Event
    to_operational = StateRequest t ToOperational

    pub in_two : number x to_operational ≡ number x to_dormant → (number x to_operational ≡ 0 → number (next x to_operational) to_dormant ≡ 0)
        → next (next x to_operational) to_dormant ≡ next x to_dormant
        → (answer : ℕ) (after : A) → Takes x to_dormant answer after
        → (answer₁ : ℕ) (between : A) → Takes x to_operational answer₁ between
        → (answer₂ : ℕ) (after₂ : A) → Takes between to_dormant answer₂ after₂
        → SameAsTwo answer answer₁ answer₂ after after₂
    in_two same goes_on twice answer after (n, a) answer₁ between (n₁, a₁) answer₂ after₂ (n₂, a₂) = go (number x to_operational) refl
      where
        go : (k : ℕ) → number x to_operational ≡ k → SameAsTwo answer answer₁ answer₂ after after₂
        go zero z =
            let on : between ≡ next x to_operational = a₁ ∙ ap (λ (k : ℕ). if_accepted k (next x to_operational) x) z in
            record {
              first = n₁ ∙ same ∙ sym n;
              second = n₂ ∙ rw on (goes_on z) ∙ sym z ∙ same ∙ sym n;
              left = rw (a₂, on, goes_on z, a, ← same, z) twice;
            }
        go (suc k) z =
            let back : between ≡ x = a₁ ∙ ap (λ (k : ℕ). if_accepted k (next x to_operational) x) z in
            record { first = n₁ ∙ same ∙ sym n; second = n₂ ∙ rw back (sym n); left = rw (a₂, back) (sym a) }

-- by the table the first gets the number of the one
pub same_refusal : (s : State) (last : Milliseconds) (commands : ℕ) (t : Milliseconds) → s ≡ Maintenance
    → refusal s last commands (StateRequest t ToOperational) ≡ refusal s last commands (StateRequest t ToDormant)
unfolding refusal
same_refusal s last commands t m = rw m refl

-- and where it is accepted, its time is the last one, and the second is in time
pub second_accepted : (s : State) (last : Milliseconds) (commands : ℕ) (t : Milliseconds) → refusal s last commands (StateRequest t ToOperational) ≡ 0
    → refusal Operational t commands (StateRequest t ToDormant) ≡ 0
second_accepted s last commands t z =
    let h = in_time s last commands (StateRequest t ToOperational) z in
    request_accepted Operational t commands t ToDormant refl refl (record { not_below_last = omega arith; not_above_mission = h.not_above_mission })

-- ---- the ledger

pub accepted_in_two : AcceptedInTwo
accepted_in_two l m t = rw m refl

pub entered_in_two : TwoSteps (λ l. l.state) Enters
entered_in_two l m t =
    in_two refused accept l t (same_refusal l.state l.last l.commands t m) (second_accepted l.state l.last l.commands t) (accepted_in_two l m t)
