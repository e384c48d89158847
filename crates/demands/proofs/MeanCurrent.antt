-- Document 02, S-5, "Charge by the mean current", sentence by sentence: of the rule, and of every run of the code. The rule is in
-- rules:Accounts, what it says of one call more in rules:MeanCurrent.
use Prim.Native.Nat.{ℕ, ◌*◌, ◌≤◌}
use mathlib.Core.Path.{◌≡◌, refl, subst}
use mathlib.Core.List.{List, [], ◌∷◌, ◌++◌, Forall₂}
use native.Mathlib.Omega.{arith}
use lib.IntN.{ℤ, pos, neg_ℤ, ◌*ℤ◌}
use Rattle.rules.specs.declared.units.Milliamperes.{Milliamperes}
use Rattle.rules.specs.declared.units.Milliseconds.{Milliseconds}
use Rattle.rules.specs.declared.sensors.Reading.{Reading}
use Rattle.rules.specs.declared.states.Contactor.{Contactor}
use Rattle.rules.specs.declared.calls.Event.{Event}
use Rattle.rules.specs.declared.calls.Event.TheVariants.{Measurement}
use Rattle.rules.specs.declared.battery.Record.{Record}
use Rattle.rules.specs.Quantities.{ma, ms, ma_ms, elapsed}
use Rattle.rules.specs.Test.{plausible}
use Rattle.rules.specs.Refusals.{refusal}
use Rattle.rules.specs.Trips.{Measured}
use Rattle.rules.specs.Ledger.{ledger, refused, accepted}
use Rattle.rules.specs.Accounts.{flow, halved, positive_part, negative_part, charged, discharged}
use Rattle.rules.specs.Soundness.{account_limit}
use Rattle.rules.specs.Claims.{type_or1, AfterList}
use Rattle.rules.specs.MeanCurrent.{OneMore, Grown, PlausibleNeighbours, NeighboursJoin, NothingElseJoins}
use Rattle.rules.specs.Examples.{Meets, frame, current_of as current, session, charges, rows}
use Rattle.rules.specs.Worthless.{reading, power_on, current_of}
use Rattle.rules.proofs.Flow as Flow
use Rattle.rules.proofs.MeanCurrent as Rule
use Rattle.rules.proofs.Examples.{examples}
use Rattle.step.specs.Fresh.{fresh}
use Rattle.step.specs.Call.{run}
use Rattle.engine.proofs.Chain.{CodeRun, code_after_every_list, some_run}

-- "The laboratories have agreed to count charge from the mean of neighbouring currents, not the earlier one.": which of the two is the
-- earlier makes no difference, and a current that stays is counted as before
pub either_order : (i j : Milliamperes) (t : Milliseconds) → flow i j t ≡ flow j i t
either_order = Flow.either_order

pub steady_as_before : (i : Milliamperes) (t : Milliseconds) → halved (flow i i t) ≡ i.0 *ℤ pos t.0
steady_as_before = Flow.steady

-- "For two neighbouring measurements of a session, both plausible, add the two currents, multiply by the elapsed time, halve towards zero; a
-- positive result joins charged, the negation of a negative one discharged.": wherever in a run, and nothing else joins them
pub neighbours_join : NeighboursJoin CodeRun
neighbours_join = Rule.neighbours_join CodeRun code_after_every_list

pub nothing_else_joins : NothingElseJoins CodeRun
nothing_else_joins = Rule.nothing_else_joins CodeRun code_after_every_list

-- such neighbours there are, and such runs for every list and call
pub some_neighbours :
    PlausibleNeighbours (power_on 0 ∷ current_of 0 (pos 60_000) ∷ [])
    (record { at = ms 0; reading = reading 3_300 3_300 (pos 60_000) (pos 250) })
    (ms 1_000) (reading 3_300 3_300 (neg_ℤ (pos 20_000)) (pos 250))
unfolding refusal plausible
some_neighbours = record { past = []; newest = refl; earlier_plausible = tt; later_plausible = tt; accepted = refl }

pub some_one_more : (battery : ℕ) (calls : List Event) (e : Event)
    → OneMore CodeRun battery calls e (run (fresh battery).start calls) (run (fresh battery).start (calls ++ e ∷ []))
some_one_more battery calls e = record {
  answers₁ = _;
  answers₂ = _;
  contactor₁ = _;
  contactor₂ = _;
  run₁ = some_run battery calls;
  run₂ = some_run battery (calls ++ e ∷ []);
}

-- and calls without such a neighbour: every refused one
pub refused_without_neighbour : (calls : List Event) (e : Event) → ¬ (refused (ledger calls) e ≡ 0)
    → (earlier : Measured) (t : Milliseconds) (r : Reading) → e ≡ Measurement t r → ¬ PlausibleNeighbours calls earlier t r
refused_without_neighbour calls e refuses earlier t r is n = refuses (rw is n.accepted)

-- "Currents of 60,000 and -20,000 over 1,000 ms add 20,000,000 to charged."
pub sixty_and_minus_twenty : (battery : ℕ) (calls : List Event) (earlier : Measured) (t : Milliseconds) (r : Reading) (before after : Record)
    → PlausibleNeighbours calls earlier t r
    → earlier.reading.current ≡ ma (pos 60_000) → r.current ≡ ma (neg_ℤ (pos 20_000)) → elapsed earlier.at t ≡ ms 1_000
    → OneMore CodeRun battery calls (Measurement t r) before after → Grown (ma_ms 20_000_000) (ma_ms 0) before after
sixty_and_minus_twenty battery calls earlier t r before after n first second apart m =
    subst (λ (z : ℤ). Grown (ma_ms (positive_part z)) (ma_ms (negative_part z)) before after)
    (result earlier.reading.current r.current (elapsed earlier.at t) first second apart)
    (neighbours_join battery calls earlier t r before after n m)
  where
    result : (i j : Milliamperes) (d : Milliseconds) → i ≡ ma (pos 60_000) → j ≡ ma (neg_ℤ (pos 20_000)) → d ≡ ms 1_000
        → halved (flow i j d) ≡ pos 20_000_000
    result i j d first second apart = rw (first, second, apart) refl

-- "The soundness limit on accounts is unchanged.", and kept
pub limit_unchanged : (last : Milliseconds) → account_limit last ≡ ma_ms (2_000_000 * last.0)
limit_unchanged last = refl

module _
    (battery : ℕ)
    (calls : List Event)
    (given : List ℕ)
    (after : Record)
    (contactor : Contactor)
    (ran : CodeRun battery calls given after contactor) where
  owed : AfterList (type_or1 battery) calls given after contactor
  owed = code_after_every_list battery calls given after contactor ran

  pub within_the_limit : (after.live.tally.charged.0 ≤ (account_limit after.live.last).0)
      × (after.live.tally.discharged.0 ≤ (account_limit after.live.last).0)
  within_the_limit = (owed.sound.charged, owed.sound.discharged)

  -- "The accounts are compared with this rule from here on, in logs made earlier too,": after every list of calls
  pub accounts_by_this_rule : (after.live.tally.charged ≡ charged (accepted calls)) × (after.live.tally.discharged ≡ discharged (accepted calls))
  accounts_by_this_rule = (owed.shared.charged, owed.shared.discharged)

-- "and the marked charge example now has 60,000 ma at both times.": row 12 of the bench examples, of the code
pub marked_example : (battery start : ℕ) (taken : List Measured)
    → Forall₂ (Meets start) (frame 0 (current (pos 60_000)) ∷ frame 1_000 (current (pos 60_000)) ∷ []) taken
    → (given : List ℕ) (after : Record) (contactor : Contactor) → CodeRun battery (session taken) given after contactor
    → after.live.tally.charged ≡ ma_ms 60_000_000
unfolding rows
marked_example battery start taken meets given after contactor run =
    rw (accounts_by_this_rule battery (session taken) given after contactor run).0 (examples 12 (omega arith) (charges [] 0) start taken meets)
