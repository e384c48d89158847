-- The round trips of events, through the contracts of `read_event` and `write_event`.
use Prim.Native.Nat.{ℕ, ◌≤◌}
use mathlib.Core.List.{List}
use mathlib.Core.Path.{◌≡◌, refl}
use borrow.Author.Tests.{le-ltb}
use lib.ListN.{length, take}
use denote.Ref.{Bor}
use contract.Lifetimes.{Lfts}
use Rattle.std.specs.Prelude.{None, Some, Ok}
use Rattle.rules.proofs.Injective.{read_event_injective}
use Rattle.rules.specs.Bytes.{event_forms, event_bytes, event_write_refusal}
use Rattle.rules.specs.Numbers.{event_kind, event_values, answer_of_read_event}
use Rattle.rules.specs.declared.calls.Event.{Event}
use Rattle.event_reader.proofs.read_event.Reads as read-event
use Rattle.event_writer.proofs.write_event.Reads as write-event
use Rattle.roundtrip.proofs.Chains.{written_then_read, read_then_written, whole_log}
use Rattle.roundtrip.specs.Chains.{ReadResult, Items, Reader, Writer, bytes_of, ReadsBack, ReadToEnd, Wrote, WrittenAgain, Whole}

abbrev pub events : Items
events = record { Item = Event; forms = event_forms; kind = event_kind; values = event_values }

pub event_due : (e : Event) → event_bytes e ≡ bytes_of event_forms (event_kind e) (event_values e)
unfolding event_bytes
event_due e = refl

pub event_fits : (e : Event) (buffer : List ℕ) → length (event_bytes e) ≤ length buffer → event_write_refusal e buffer ≡ 0
event_fits e buffer h = rw (le-ltb (length buffer) (length (event_bytes e)) h)

module _ (κs : Lfts 1) where
  -- what `read_event` may answer, and what `write_event` may answer and leave, as their contracts have it
  abbrev pub reader : Reader events
  reader = record {
    Answer = ReadResult Event;
    Found = λ e next. Ok (Some (e, next));
    End = Ok None;
    answer = answer_of_read_event;
    of_found = λ e next. refl;
    of_end = refl;
    same = read_event_injective;
    Allows = λ log at r. read-event.Post κs (log, (at, tt)) r (log, (at, tt));
    right = λ allowed. allowed.0;
    logged = λ allowed. allowed.1;
  }

  abbrev pub writer : Writer events
  writer = record {
    due = event_bytes;
    is_due_lem = event_due;
    refusal = event_write_refusal;
    fits = λ e buffer range. event_fits e buffer;
    Allows = λ e before r after. write-event.Post κs (e, (before, tt)) r (e, (after, tt));
    right = λ allowed. (allowed.0, allowed.1.0);
    ranged = λ allowed. allowed.1.1;
  }

  -- Events written one after the other read back in order, each with the position right after it, and then "end".
  pub events_written_then_read : {es : List Event} {before after : List ℕ} {used : ℕ} → Wrote events writer es before after used
      → (log : Bor (List ℕ)) → log.now ≡ take used after → ReadsBack events reader log 0 es
  events_written_then_read = written_then_read events reader writer

  -- An event that was read is in range, and where there is room it is written again as the very bytes that were read.
  pub event_read_then_written : (log : Bor (List ℕ)) (at next : ℕ) (e : Event) → reader.Allows log at (Ok (Some (e, next)))
      → WrittenAgain events writer log.now at e next
  event_read_then_written log at next e read = read_then_written events reader writer {log = log} read

  -- A log that reads to "end" is exactly the bytes of the events that were read.
  pub event_log_whole : {log : Bor (List ℕ)} {es : List Event} → ReadToEnd events reader log 0 es → Whole events writer log.now es
  event_log_whole = whole_log events reader writer
