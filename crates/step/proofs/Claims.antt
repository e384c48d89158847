-- The claims, of the step: instances at the fresh record of what Runs, Closing and Overrides prove of any record.
use mathlib.Core.Path.{◌≡◌, refl, sym, ap, subst, ◌∙◌}
use mathlib.Core.Logic.{◌↔◌, ◌≢◌}
use mathlib.Core.Bool.{Bool, true, false, not, cond, ◌&&◌}
use mathlib.Core.List.{List, []}
use Prim.Native.Nat.{ℕ, zero, suc, ◌<◌}
use lib.Dec.{T, leb}
use Rattle.rules.specs.declared.calls.Event.{Event}
use Rattle.rules.specs.declared.battery.Record.{Record}
use Rattle.rules.specs.Numbers.{FreshAnswer}
use Rattle.rules.specs.Quantities.{is_type}
use Rattle.rules.specs.Numbers.{state_number, command_number, override_number, contactor_number}
use Rattle.rules.specs.Refusals.{first_of, fresh_checks, CallAnswer.unsound}
use Rattle.rules.specs.Protections.{row_of}
use Rattle.rules.specs.Ledger.{ledger, at_first, if_accepted, accepted, is_tripped_on}
use Rattle.rules.specs.Stores.{long_term, short_term}
use Rattle.rules.specs.Contactor.{Closed, ContactorsDiffer}
use Rattle.rules.specs.Alike.{Alike}
use Rattle.rules.specs.Shown.{kept_of}
use Rattle.rules.specs.Shared.{Shared, shown_by, ruled_for, Agree}
use Rattle.rules.specs.Claims.{type_or1, Engine, AfterList, AfterEveryList, TwoRuns, AnyTwoLists, Starter, OfEveryType, OneCall, Refused, OnEveryRecord}
use Rattle.rules.proofs.Decide.{is_tripped_lem}
use Rattle.rules.proofs.Bools.{and_iff, is_true, same_test}
use Rattle.rules.proofs.CallTable.{table_listed, table_not_5}
use Rattle.step.specs.Fresh.{fresh_record, fresh}
use Rattle.step.specs.Sound.{sound}
use Rattle.step.specs.Refusal.{refusal, refusal_live}
use Rattle.step.specs.Close.{closes, contactor_of}
use Rattle.step.specs.Call.{advance, answer, call, run, answers}
use Rattle.step.proofs.Sounds.{sound_is, type_is}
use Rattle.step.proofs.Shows.{Shows, shows_fresh}
use Rattle.step.proofs.Runs.{shows_sound, shows_run, answers_are, battery_run}
use Rattle.step.proofs.Closing.{overridden, closed_is, contactors_differ}
use Rattle.step.proofs.Overrides.{erase, alike_run, alike_answers}

-- the runs of the step
abbrev pub StepRuns : Engine
StepRuns battery calls given after contactor =
    (given ≡ answers (fresh battery).start calls)
    × (after ≡ run (fresh battery).start calls)
    × (contactor ≡ contactor_of (run (fresh battery).start calls).live)

-- ---- after every list

module _ (battery : ℕ) (type : T (is_type battery)) (calls : List Event) where
  abbrev last : Record
  last = run (fresh_record battery) calls

  pub shown : Shows last (ledger calls) (accepted calls)
  shown = shows_run (fresh_record battery) at_first [] calls (shows_fresh battery type)

  same_type : last.live.battery ≡ battery
  same_type = battery_run (fresh_record battery) calls

  shown_tripped : (protection : ℕ) → protection < 8 → (kept_of last protection).tripped ≡ is_tripped_on battery (ledger calls) protection
  shown_tripped protection h =
      (shown.watch.protections protection h).tripped ∙ ap (λ (b : ℕ). is_tripped_on b (ledger calls) protection) same_type

  agrees : Agree (shown_by last) (ruled_for battery calls)
  agrees = record {
    state = ap state_number shown.control.state;
    command = ap command_number shown.control.command;
    tripped = λ protection h. rw (shown_tripped protection h) (is_tripped_lem (row_of battery protection) (ledger calls).measured);
    test = shown.watch.test;
    failed_mask = shown.watch.mask;
    failed_count = shown.watch.failed;
    charged = shown.tally.charged;
    discharged = shown.tally.discharged;
    commands = shown.tally.counted;
    long_term = shown.stores.long ∙ ap (λ (b : ℕ). long_term b (accepted calls)) same_type;
    short_term = shown.stores.short ∙ ap (λ (b : ℕ). short_term b (accepted calls)) same_type;
  }

  pub after_list : AfterList battery calls (answers (fresh_record battery) calls) last (contactor_of last.live)
  after_list = record {
    answered = answers_are (fresh_record battery) at_first [] calls (shows_fresh battery type);
    battery_type = same_type;
    override = ap override_number shown.control.override;
    last = shown.last;
    shared = agrees;
    sound = shows_sound last (ledger calls) (accepted calls) shown;
    closed = subst (λ (b : ℕ). (contactor_number (contactor_of last.live) ≡ 1) ↔ Closed b (ledger calls)) same_type
        (closed_is last (ledger calls) (accepted calls) shown);
  }

-- ---- the fresh record of a type number

abbrev pub known : ℕ → Bool
known battery = leb 1 battery && leb battery 3

pub same_known : (battery : ℕ) → known battery ≡ is_type battery
same_known battery = same_test (known battery) (is_type battery) (and_iff (leb 1 battery) (leb battery 3)) (swap (type_is battery))
  where
    swap : {A B : Type 0} → A ↔ B → B ↔ A
    swap e = (e.1, e.0)

-- what a number gets: its type's fresh record with 0, or that of type 1 with 1
fresh_of_known : (battery : ℕ) → T (is_type battery) → fresh battery ≡ record { refusal = 0; start = fresh_record battery }
fresh_of_known battery h = rw (same_known battery, (is_true (is_type battery)).0 h) refl

fresh_is : (battery : ℕ) → fresh battery ≡ record { refusal = first_of (fresh_checks battery); start = fresh_record (type_or1 battery) }
fresh_is battery = rw (same_known battery) (go (is_type battery))
  where
    go : (b : Bool) → ◌≡◌ {A = FreshAnswer} (cond b (record { refusal = 0; start = fresh_record battery }) (record { refusal = 1; start = fresh_record 1 }))
        (record { refusal = cond (not b) 1 0; start = fresh_record (cond b battery 1) })
    go true = refl
    go false = refl

known_or_1 : (battery : ℕ) → T (is_type (type_or1 battery))
known_or_1 battery = go (is_type battery) refl
  where
    go : (b : Bool) → is_type battery ≡ b → T (is_type (cond b battery 1))
    go true e = (is_true (is_type battery)).1 e
    go false e = tt

-- the step's fresh records
abbrev pub StepStarts : Starter
StepStarts battery given start = ◌≡◌ {A = FreshAnswer} (record { refusal = given; start = start }) (fresh battery)

pub of_every_type : OfEveryType StepStarts
unfolding closes
of_every_type battery given start starts = record {
  refusal = ap (λ (f : FreshAnswer). f.refusal) (starts ∙ fresh_is battery);
  empty = rw same (after_list (type_or1 battery) (known_or_1 battery) []);
  of_its_type = rw same (sym (fresh_of_known (type_or1 battery) (known_or_1 battery)));
  no_other = λ given₁ start₁ starts₁. ap (λ (f : FreshAnswer). f.start) (starts₁ ∙ fresh_of_known (type_or1 battery) (known_or_1 battery)) ∙ sym same;
}
  where
    same : start ≡ fresh_record (type_or1 battery)
    same = ap (λ (f : FreshAnswer). f.start) (starts ∙ fresh_is battery)

-- ---- the claims

pub after_every_list : AfterEveryList StepRuns
after_every_list battery calls given after contactor (g, a, c) =
    rw (g, a, c, fresh_is battery) (after_list (type_or1 battery) (known_or_1 battery) calls)

-- what is shown doesn't look at override
agrees_with_itself : (a : Shared) → Agree a a
agrees_with_itself a = record {
  state = refl;
  command = refl;
  tripped = λ protection h. (λ t. t, λ t. t);
  test = refl;
  failed_mask = refl;
  failed_count = refl;
  charged = refl;
  discharged = refl;
  commands = refl;
  long_term = refl;
  short_term = refl;
}

module _ (battery : ℕ) (type : T (is_type battery)) (calls₁ calls₂ : List Event) (alike : Alike calls₁ calls₂) where
  abbrev r : Record
  r = run (fresh_record battery) calls₁

  abbrev q : Record
  q = run (fresh_record battery) calls₂

  same_but : erase r ≡ erase q
  same_but = alike_run (fresh_record battery) (fresh_record battery) alike refl

  -- the second run's live part, from the first's
  other : q.live ≡ overridden (ledger calls₂).override r.live
  other =
      ap (λ (x : Record). overridden q.live.control.overriding x.live) (sym same_but)
      ∙ ap (λ (on : Bool). overridden on r.live) (shown battery type calls₂).control.override

  first : AfterList battery calls₁ (answers (fresh_record battery) calls₁) r (contactor_of r.live)
  first = after_list battery type calls₁

  second : AfterList battery calls₂ (answers (fresh_record battery) calls₂) q (contactor_of q.live)
  second = after_list battery type calls₂

  pub two_runs : TwoRuns battery calls₁ calls₂ (answers (fresh_record battery) calls₁) (answers (fresh_record battery) calls₂) r q (contactor_of r.live) (contactor_of q.live)
  two_runs = record {
    same_answers = alike_answers (fresh_record battery) (fresh_record battery) alike refl;
    answered₁ = first.answered;
    answered₂ = second.answered;
    shared = subst (λ (x : Record). Agree (shown_by r) (shown_by x)) same_but (agrees_with_itself (shown_by r));
    by_rules₁ = first;
    by_rules₂ = second;
    contactors_differ = subst (λ (b : ℕ). (contactor_number (contactor_of r.live) ≢ contactor_number (contactor_of q.live)) ↔ ContactorsDiffer b (ledger calls₁) (ledger calls₂))
        (battery_run (fresh_record battery) calls₁)
        (contactors_differ r (ledger calls₁) (accepted calls₁) (shown battery type calls₁) q (ledger calls₂) other);
    closed₁ = first.closed;
    closed₂ = second.closed;
  }

pub any_two_lists : AnyTwoLists StepRuns
any_two_lists battery calls₁ calls₂ alike given₁ given₂ after₁ after₂ contactor₁ contactor₂ (g₁, a₁, c₁) (g₂, a₂, c₂) =
    rw (g₁, a₁, c₁, g₂, a₂, c₂, fresh_is battery) (two_runs (type_or1 battery) (known_or_1 battery) calls₁ calls₂ alike)

-- ---- one call, on any record

abbrev pub StepCalls : OneCall
StepCalls before e given after = (given ≡ (call before e).refusal) × (after ≡ (call before e).after)

pub number_is : (n : ℕ) (next before : Record) → (answer n next before).refusal ≡ n
number_is zero next before = refl
number_is (suc n) next before = refl

pub after_is : (n : ℕ) (next before : Record) → (answer n next before).after ≡ if_accepted n next before
after_is zero next before = refl
after_is (suc n) next before = refl

module _ (before : Record) (e : Event) where
  kept : (n : ℕ) → (n ≡ 0 → ⊥) → (answer n (advance before e) before).after ≡ before
  kept zero h = absurd (h refl)
  kept (suc n) h = refl

  -- the refusal of a sound record, and of one that isn't
  of_sound : (b : Bool) → sound before ≡ b → Refused before e (cond b (refusal_live before.live e) 5) (answer (cond b (refusal_live before.live e) 5) (advance before e) before).after
  of_sound true s = record {
    listed = table_listed _ _ _ e;
    unsound = (λ h. absurd (table_not_5 _ _ _ e h), λ h. absurd (h ((sound_is before).0 ((is_true (sound before)).1 s))));
    by_table = λ h. refl;
    unchanged = λ h. kept (refusal_live before.live e) h;
  }
  of_sound false s = record {
    listed = unsound;
    unsound = (λ h k. subst T s ((sound_is before).1 k), λ h. refl);
    by_table = λ h. absurd (subst T s ((sound_is before).1 h));
    unchanged = λ h. refl;
  }

  pub refused : Refused before e (call before e).refusal (call before e).after
  refused = rw (number_is (refusal before e) (advance before e) before) (of_sound (sound before) refl)

pub on_every_record : OnEveryRecord StepCalls
on_every_record before e given after (g, a) = rw (g, a) (refused before e)
