-- Demand 1, of the log reader. The borrow checker covers no function over a reader that is lent, so its contract is an assertion of the
-- program logic: a fact that it entails holds of every return.
use mathlib.Core.List.{List}
use Prim.Native.Nat.{ℕ}
use seplogic.Ra.Ura.{Ura}
use base.Logic.{SProp, ent}
use prog.Memory.{Memory}
use prog.Routine.{Routine}
use types.Logic.{Logic}
use contract.Monad.{Fun, fact, fact_mono}
use contract.Lifetimes.{Lfts}
use denote.Ref.{Bor}
use denote.Triple.Entry.{Args}
use denote.Triple.Clauses.{AtExit}
use Rattle.rules.specs.declared.calls.Event.{Event}
use Rattle.rules.specs.Numbers.{answer_of_read_event}
use Rattle.rules.specs.Bytes.{event_forms}
use Rattle.reader.specs.declared.Read.{Read}
use Rattle.reader.specs.contracts.next as next
use Rattle.event_log.proofs.event_at.Reads as event-at
use Rattle.rules.specs.Answers.{ReadAllows}
use Rattle.rules.proofs.Listed.{reading_allows, reader_allows}
use Rattle.roundtrip.specs.Chains.{ReadResult}
use Rattle.demands.specs.Reader.{NextAllows}

module _ {M : Type 1} {𝓤 : Ura M} (𝓛 : Logic 𝓤) (mem : Memory → SProp 𝓤) (run : Routine → Fun 𝓤) (κs : Lfts 2) where
  pub next_read : (args : Args next.signature κs) (exit : AtExit next.ended κs) (r : Read)
      → ent 𝓤 ((next.clauses 𝓛 mem run κs args).ensures tt r exit) (fact 𝓤 (NextAllows args.0.now exit.0.now r))
  next_read args exit r =
      fact_mono 𝓤 _ _ (λ told.
      record {
        same_log = told.1;
        reads = rw (told.0, told.2) (reader_allows args.0.now.log.now args.0.now.position);
        remainder = told.3;
      })

-- `event_at`, for callers that hold no reader
pub event_at_read : (κs : Lfts 1) (log : Bor (List ℕ)) (position : ℕ) (r : ReadResult Event) → event-at.Post κs (log, (position, tt)) r (log, (position, tt))
    → ReadAllows position (answer_of_read_event r)
event_at_read κs log position r allowed = rw allowed (reading_allows event_forms log.now position)
