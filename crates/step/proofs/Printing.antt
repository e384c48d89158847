-- A run of the step prints the text that the rules give.
use mathlib.Core.Path.{◌≡◌, refl, sym, ap, ap₂, ◌∙◌}
use mathlib.Core.Bool.{Bool, true, false, cond}
use mathlib.Core.List.{List, [], ◌∷◌, ◌++◌}
use Prim.Native.Nat.{ℕ, ◌+◌}
use lib.Dec.{T}
use lib.ListN.{length}
use Rattle.rules.specs.declared.states.Contactor.TheVariants.{Open, Closed as IsClosed}
use Rattle.rules.specs.declared.calls.Event.{Event}
use Rattle.rules.specs.declared.battery.Record.{Record}
use Rattle.rules.specs.Quantities.{is_type}
use Rattle.rules.specs.Numbers.{state_number, override_number, contactor_number}
use Rattle.rules.specs.Ledger.{Ledger, Accepted, at_first, enter, accepted, test_of, is_tripped_on, tripped_mask_on}
use Rattle.rules.specs.Stores.{long_term}
use Rattle.rules.specs.Accounts.{charged, discharged}
use Rattle.rules.specs.Contactor.{is_closed}
use Rattle.rules.specs.Shown.{long_entry, long_entries}
use Rattle.rules.specs.Logs.{Ending, at_end, stopped, read_log}
use Rattle.rules.specs.Text.{event_line, end_line, stop_line, call_line, call_lines, last_line, log_text, text}
use Rattle.rules.proofs.Lists.{length_tabulate}
use Rattle.rules.proofs.Bits.{mask_same}
use Rattle.rules.proofs.Bools.{is_true}
use Rattle.step.specs.Fresh.{fresh_record}
use Rattle.step.specs.Close.{contactor_of}
use Rattle.step.specs.Call.{call, run}
use Rattle.step.specs.Print.{tripped_of, live_line, printed, end_of, last_of, printed_input}
use Rattle.step.proofs.Shows.{Shows, shows_fresh}
use Rattle.step.proofs.Closing.{same_closed}
use Rattle.step.proofs.Runs.{shows_call, shows_run, refusal_is, battery_run}
use Rattle.step.proofs.Claims.{same_known}

-- ---- one line

contactor_digit : (b : Bool) → contactor_number (cond b IsClosed Open) ≡ cond b 1 0
contactor_digit true = refl
contactor_digit false = refl

-- what the rules print of a ledger
abbrev ledger_line : ℕ → ℕ → ℕ → Ledger → List ℕ
ledger_line battery count refusal l =
    event_line count refusal (state_number l.state) (cond (is_closed battery l) 1 0) (tripped_mask_on battery l) (override_number l.override) (test_of l.measured)

module _ (r : Record) (l : Ledger) (past : List Accepted) (k : Shows r l past) where
  tripped_same : tripped_of r.live ≡ tripped_mask_on r.live.battery l
  unfolding tripped_of
  tripped_same = mask_same 8 _ (is_tripped_on r.live.battery l) (λ protection h. (k.watch.protections protection h).tripped)

  closed_digit : contactor_number (contactor_of r.live) ≡ cond (is_closed r.live.battery l) 1 0
  closed_digit = rw (same_closed r l past k) (contactor_digit (is_closed r.live.battery l))

  -- the line of a record that shows a ledger
  pub line_shown : (count refusal : ℕ) → live_line count refusal r.live ≡ ledger_line r.live.battery count refusal l
  unfolding live_line
  line_shown count refusal =
      rw (closed_digit, tripped_same, k.control.state, k.control.override, k.watch.test) refl

  pub end_shown : end_of r ≡ end_line (charged past).0 (discharged past).0 (length (long_term r.live.battery past))
  unfolding long_entries
  end_shown = rw (k.tally.charged, k.tally.discharged, sym k.stores.long, length_tabulate r.stores.long.count (long_entry r.stores.long)) refl

-- ---- the lines of a list of calls, and the last line

pub call_line_shown : (r : Record) (l : Ledger) (past : List Accepted) → Shows r l past → (count : ℕ) (e : Event)
    → live_line count (call r e).refusal (call r e).after.live ≡ call_line r.live.battery count l e
call_line_shown r l past k count e =
    line_shown (call r e).after (enter l e) _ (shows_call r l past k e) count (call r e).refusal
    ∙ ap₂ (λ (b n : ℕ). ledger_line b count n (enter l e)) (battery_run r (e ∷ [])) (refusal_is r l past k e)

pub lines_shown : (battery : ℕ) (r : Record) (l : Ledger) (past : List Accepted) → Shows r l past → r.live.battery ≡ battery → (count : ℕ) (es : List Event)
    → printed count r es ≡ call_lines battery count l es
lines_shown battery r l past k same count [] = refl
lines_shown battery r l past k same count (e ∷ es) =
    ap₂ ◌++◌
    (call_line_shown r l past k count e ∙ ap (λ (b : ℕ). call_line b count l e) same)
    (lines_shown battery (call r e).after (enter l e) _ (shows_call r l past k e) (battery_run r (e ∷ []) ∙ same) (count + 1) es)

last_shown : (battery : ℕ) → T (is_type battery) → (calls : List Event) (ending : Ending)
    → last_of (run (fresh_record battery) calls) ending ≡ last_line battery calls ending
last_shown battery type calls at_end =
    end_shown (run (fresh_record battery) calls) _ (accepted calls) (shows_run (fresh_record battery) at_first [] calls (shows_fresh battery type))
    ∙ ap (λ (b : ℕ). end_line (charged (accepted calls)).0 (discharged (accepted calls)).0 (length (long_term b (accepted calls)))) (battery_run (fresh_record battery) calls)
last_shown battery type calls (stopped refusal position) = refl

-- ---- a whole input

pub prints : (input : List ℕ) → printed_input input ≡ text input
prints [] = refl
prints (battery ∷ log) = go (is_type battery) refl
  where
    go : (b : Bool) → is_type battery ≡ b → printed_input (battery ∷ log) ≡ cond b (log_text battery (read_log log)) (stop_line 1 0)
    go true e =
        let type = (is_true (is_type battery)).1 e in
        rw (same_known battery, e)
        (ap₂ ◌++◌ (lines_shown battery (fresh_record battery) at_first [] (shows_fresh battery type) refl 1 (read_log log).calls)
        (last_shown battery type (read_log log).calls (read_log log).ending))
    go false e = rw (same_known battery, e) refl
