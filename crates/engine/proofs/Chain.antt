-- The claims, of the code: over every chain of results that the contracts of `fresh`, `apply` and `contactor` allow, answers included.
use mathlib.Core.Path.{◌≡◌, refl, sym, ap, ap₂, subst, ◌∙◌}
use mathlib.Core.Bool.{Bool, true, false, ◌&&◌}
use mathlib.Core.List.{List, [], ◌∷◌, ◌++◌}
use Prim.Native.Nat.{ℕ, suc}
use native.Mathlib.Omega.{arith}
use lib.Dec.{leb}
use lib.ListN.{length}
use Rattle.std.specs.Prelude.{None, Some, Result, Ok, Err}
use Rattle.rules.specs.declared.refusals.Refusal.{Refusal}
use Rattle.rules.specs.declared.refusals.Refusal.TheVariants.{UnknownType, Unsound, TimeBelowLast, TimeAboveMission, WrongPower, RequestNotAllowed, OtherNotAllowed}
use Rattle.rules.specs.declared.states.Contactor.{Contactor}
use Rattle.rules.specs.declared.calls.Event.{Event}
use Rattle.rules.specs.declared.battery.Record.{Record}
use Rattle.rules.specs.declared.answers.Fresh.{Fresh}
use Rattle.rules.specs.Numbers.{refusal_number, number_of, FreshAnswer, answer_of_fresh, Outcome, outcome_of}
use Rattle.rules.specs.Lists.{Each, none, ◌and◌}
use Rattle.rules.specs.Refusals.{CallAnswer, accepted, unsound, time_below_last, time_above_mission, wrong_power, request_not_allowed, other_not_allowed}
use Rattle.rules.specs.Soundness.{Sound}
use Rattle.rules.specs.Claims.{AfterEveryList, AnyTwoLists, FreshOf, OfEveryType, Refused, OnEveryRecord}
use Rattle.rules.specs.StateMap.{ByWiderMap}
use Rattle.step.specs.Fresh.{fresh_record, fresh}
use Rattle.step.specs.Close.{contactor_of}
use Rattle.step.specs.Call.{call, run, answers}
use Rattle.step.proofs.Claims.{StepRuns, StepCalls, StepStarts, of_every_type, after_every_list, any_two_lists, on_every_record}
use Rattle.step.proofs.StateMap.{by_wider_map}
use Rattle.judging.proofs.Laws.{is_refused}
use Rattle.engine.proofs.apply.Reads as apply-reads
use Rattle.engine.proofs.contactor.Reads as contactor-reads
use Rattle.engine.proofs.fresh.Reads as fresh-reads

-- what the functions may give back, as their contracts in src/lib.rt have it
abbrev pub Starts : ℕ → Fresh → Type 0
Starts battery f = fresh-reads.Post tt (battery, tt) f (battery, tt)

abbrev pub Gives : Record → Event → Result Record Refusal → Type 0
Gives r e a = apply-reads.Post tt (r, (e, tt)) a (r, (e, tt))

abbrev pub Has : Record → Contactor → Type 0
Has r c = contactor-reads.Post tt (r, tt) c (r, tt)

-- calls one after the other: each gets the record that the one before it left, a refused one's being the caller's own
pub data Ran : Record → List Event → List ℕ → Record → Type 0 where
  done : {r : Record} → Ran r [] [] r
  called : {r q : Record} {e : Event} {es : List Event} {ns : List ℕ} (a : Result Record Refusal) → Gives r e a → Ran (outcome_of r a).after es ns q
      → Ran r (e ∷ es) ((outcome_of r a).refusal ∷ ns) q

-- the code as an engine
pub record CodeRun (battery : ℕ) (calls : List Event) (given : List ℕ) (after : Record) (contactor : Contactor) : Type 0 where
  pub begin : Fresh
  pub starts : Starts battery begin
  pub ran : Ran begin.start calls given after
  pub has : Has after contactor

-- a list after a list
pub ran_append : {r q p : Record} {es ds : List Event} {ns ms : List ℕ} → Ran r es ns q → Ran q ds ms p → Ran r (es ++ ds) (ns ++ ms) p
ran_append done more = more
ran_append (called a g c) more = called a g (ran_append c more)

-- ---- such a chain is a run of the step

pub run_is : {r q : Record} {es : List Event} {ns : List ℕ} → Ran r es ns q → q ≡ run r es
run_is done = refl
run_is (called {es = es} a g c) = run_is c ∙ ap (λ (x : Outcome). run x.after es) g

answers_are : {r q : Record} {es : List Event} {ns : List ℕ} → Ran r es ns q → ns ≡ answers r es
answers_are done = refl
answers_are (called {es = es} a g c) = ap₂ ◌∷◌ (ap (λ (x : Outcome). x.refusal) g) (answers_are c ∙ ap (λ (x : Outcome). answers x.after es) g)

step_run : (battery : ℕ) (calls : List Event) (given : List ℕ) (after : Record) (contactor : Contactor)
    → CodeRun battery calls given after contactor → StepRuns battery calls given after contactor
step_run battery calls given after contactor c = (
  answers_are c.ran ∙ ap (λ (f : FreshAnswer). answers f.start calls) c.starts,
  same,
  c.has ∙ ap (λ (r : Record). contactor_of r.live) same,
)
  where
    same : after ≡ run (fresh battery).start calls
    same = run_is c.ran ∙ ap (λ (f : FreshAnswer). run f.start calls) c.starts

-- ---- the claims

pub code_after_every_list : AfterEveryList CodeRun
code_after_every_list battery calls given after contactor c =
    after_every_list battery calls given after contactor (step_run battery calls given after contactor c)

pub code_any_two_lists : AnyTwoLists CodeRun
code_any_two_lists battery calls₁ calls₂ alike given₁ given₂ after₁ after₂ contactor₁ contactor₂ c₁ c₂ =
    any_two_lists battery calls₁ calls₂ alike given₁ given₂ after₁ after₂ contactor₁ contactor₂
    (step_run battery calls₁ given₁ after₁ contactor₁ c₁) (step_run battery calls₂ given₂ after₂ contactor₂ c₂)

-- a fresh record of the code
pub record CodeStart (battery given : ℕ) (start : Record) : Type 0 where
  pub begin : Fresh
  pub starts : Starts battery begin
  pub refusal : given ≡ number_of begin.refusal
  pub left : start ≡ begin.start

step_start : (battery given : ℕ) (start : Record) → CodeStart battery given start → StepStarts battery given start
step_start battery given start c = alike ∙ c.starts
  where
    alike : ◌≡◌ {A = FreshAnswer} (record { refusal = given; start = start }) (answer_of_fresh c.begin)
    alike i = record { refusal = c.refusal i; start = c.left i }

-- what the code gives is one of them
pub code_start : (battery : ℕ) (f : Fresh) → Starts battery f → CodeStart battery (number_of f.refusal) f.start
code_start battery f starts = record { begin = f; starts = starts; refusal = refl; left = refl }

pub code_of_every_type : OfEveryType CodeStart
code_of_every_type battery given start c =
    let owed : FreshOf StepStarts battery given start = of_every_type battery given start (step_start battery given start c) in
    record {
      refusal = owed.refusal;
      empty = owed.empty;
      of_its_type = record { begin = record { refusal = None; start = start }; starts = owed.of_its_type; refusal = refl; left = refl };
      no_other = λ given₁ start₁ c₁. owed.no_other given₁ start₁ (step_start _ given₁ start₁ c₁);
    }

-- one call of the code
pub record CodeCall (before : Record) (e : Event) (given : ℕ) (after : Record) : Type 0 where
  pub answer : Result Record Refusal
  pub gives : Gives before e answer
  pub refusal : given ≡ (outcome_of before answer).refusal
  pub left : after ≡ (outcome_of before answer).after

pub step_call : (before : Record) (e : Event) (given : ℕ) (after : Record) → CodeCall before e given after → StepCalls before e given after
step_call before e given after c = (c.refusal ∙ ap (λ (o : Outcome). o.refusal) c.gives, c.left ∙ ap (λ (o : Outcome). o.after) c.gives)

pub code_on_every_record : OnEveryRecord CodeCall
code_on_every_record before e given after c = on_every_record before e given after (step_call before e given after c)

-- and of a chain of calls: as many answers as calls, each one of the table; on an unsound record each is 5, and it stays
pub as_many_answers : {r q : Record} {es : List Event} {ns : List ℕ} → Ran r es ns q → length ns ≡ length es
as_many_answers done = refl
as_many_answers (called a g c) = ap suc (as_many_answers c)

one_call : {r : Record} {e : Event} (a : Result Record Refusal) → Gives r e a → Refused r e (outcome_of r a).refusal (outcome_of r a).after
one_call {r} {e} a g = code_on_every_record r e _ _ (record { answer = a; gives = g; refusal = refl; left = refl })

pub each_answer : {r q : Record} {es : List Event} {ns : List ℕ} → Ran r es ns q → Each CallAnswer ns
each_answer done = none
each_answer (called a g c) = (one_call a g).listed and each_answer c

pub each_answer_5 : {r q : Record} {es : List Event} {ns : List ℕ} → ¬ Sound r → Ran r es ns q → Each (λ n. n ≡ 5) ns × (q ≡ r)
each_answer_5 not_sound done = (none, refl)
each_answer_5 {r} not_sound (called a g c) =
    let five : (outcome_of r a).refusal ≡ 5 = (one_call a g).unsound.1 not_sound in
    let kept : (outcome_of r a).after ≡ r = (one_call a g).unchanged (λ z. omega (arith, five, z)) in
    let rest = each_answer_5 (rw kept not_sound) c in
    (five and rest.0, rest.1 ∙ kept)

-- ---- document 02, S-3

pub code_by_wider_map : ByWiderMap CodeCall Has
code_by_wider_map = record {
  shortcut_accepted = λ before e given after c. by_wider_map.shortcut_accepted before e given after (step_call before e given after c);
  two_steps = λ before m t given after c given₁ between c₁ given₂ after₂ c₂.
      by_wider_map.two_steps before m t given after (step_call before _ given after c)
      given₁ between (step_call before _ given₁ between c₁) given₂ after₂ (step_call between _ given₂ after₂ c₂);
  as_before = λ before t q given after c. by_wider_map.as_before before t q given after (step_call before _ given after c);
  still_nine = λ before e given after c. by_wider_map.still_nine before e given after (step_call before e given after c);
  shortcut_opens = λ before e given after contactor c. by_wider_map.shortcut_opens before e given after contactor (step_call before e given after c);
  answers_widened = λ before e given after c. by_wider_map.answers_widened before e given after (step_call before e given after c);
}

-- ---- and there is such a run for every type and list, and such a call for every record and event

-- each number of the table is that of a refusal, so that the code has an answer for each outcome of the step
answer_by : (r : Record) (e : Event) → (a : Result Record Refusal) × Gives r e a
answer_by r e = go (call r e).refusal (on_every_record r e _ _ (refl, refl)).listed refl
  where
    refused_as : (x : Refusal) → (call r e).refusal ≡ refusal_number x → (a : Result Record Refusal) × Gives r e a
    refused_as x h =
        let kept : (call r e).after ≡ r = (on_every_record r e _ _ (refl, refl)).unchanged (λ z. is_refused x (sym h ∙ z)) in
        (Err x, λ i. record { refusal = sym h i; after = sym kept i })

    go : (n : ℕ) → CallAnswer n → (call r e).refusal ≡ n → (a : Result Record Refusal) × Gives r e a
    go _ accepted h = (Ok (call r e).after, λ i. record { refusal = sym h i; after = (call r e).after })
    go _ unsound h = refused_as Unsound h
    go _ time_below_last h = refused_as TimeBelowLast h
    go _ time_above_mission h = refused_as TimeAboveMission h
    go _ wrong_power h = refused_as WrongPower h
    go _ request_not_allowed h = refused_as RequestNotAllowed h
    go _ other_not_allowed h = refused_as OtherNotAllowed h

pub ran : (r : Record) (es : List Event) → Ran r es (answers r es) (run r es)
ran r [] = done
ran r (e ∷ es) =
    let a = answer_by r e in
    subst (λ (o : Outcome). Ran r (e ∷ es) (o.refusal ∷ answers o.after es) (run o.after es)) a.1 (called a.0 a.1 (ran (outcome_of r a.0).after es))

fresh_by : (battery : ℕ) → (f : Fresh) × Starts battery f
fresh_by battery = go (leb 1 battery && leb battery 3) refl
  where
    go : (known : Bool) → (leb 1 battery && leb battery 3) ≡ known → (f : Fresh) × Starts battery f
    go true h = (record { refusal = None; start = fresh_record battery }, rw h refl)
    go false h = (record { refusal = Some UnknownType; start = fresh_record 1 }, rw h refl)

pub some_run : (battery : ℕ) (calls : List Event)
    → CodeRun battery calls (answers (fresh battery).start calls) (run (fresh battery).start calls) (contactor_of (run (fresh battery).start calls).live)
some_run battery calls =
    let f = fresh_by battery in
    let start : f.0.start ≡ (fresh battery).start = ap (λ (x : FreshAnswer). x.start) f.1 in
    record { begin = f.0; starts = f.1; ran = rw start (ran (fresh battery).start calls); has = refl }

pub some_call : (before : Record) (e : Event) → CodeCall before e (call before e).refusal (call before e).after
some_call before e =
    let a = answer_by before e in
    record { answer = a.0; gives = a.1; refusal = ap (λ (o : Outcome). o.refusal) (sym a.1); left = ap (λ (o : Outcome). o.after) (sym a.1) }

pub some_contactor : (r : Record) → Has r (contactor_of r.live)
some_contactor r = refl
