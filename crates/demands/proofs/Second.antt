-- Demand 2, clause by clause.
use mathlib.Core.Path.{◌≡◌}
use mathlib.Core.List.{List}
use Prim.Native.Nat.{ℕ}
use contract.Lifetimes.{Lfts}
use denote.Ref.{Bor}
use lib.ListN.{take}
use Rattle.std.specs.Prelude.{Some, Ok}
use Rattle.rules.specs.declared.states.Contactor.{Contactor}
use Rattle.rules.specs.declared.calls.Event.{Event}
use Rattle.rules.specs.declared.stores.Entry.{Entry}
use Rattle.rules.specs.declared.battery.Record.{Record}
use Rattle.rules.specs.Numbers.{bytes}
use Rattle.rules.specs.Ledger.{accepted}
use Rattle.rules.specs.Stores.{long_term, short_term}
use Rattle.rules.specs.Claims.{type_or1, AfterList, AfterEveryList}
use Rattle.export.specs.Claims.{StoresExported}
use Rattle.export.proofs.Allowed.{CodeLong, CodeShort}
use Rattle.roundtrip.specs.Chains.{ReadsBack, ReadAs, ReadToEnd, Wrote, WrittenAgain, Whole}
use Rattle.roundtrip.proofs.Events.{events, reader as event-reader, writer as event-writer, events_written_then_read, event_read_then_written, event_log_whole}
use Rattle.roundtrip.proofs.Entries.{entries, reader as entry-reader, writer as entry-writer, entries_written_then_read, entry_read_then_written, entry_log_whole}
use Rattle.roundtrip.proofs.Exports.{long_export_reads_back, short_export_reads_back}
use Rattle.engine.proofs.Chain.{CodeRun, code_after_every_list}
use Rattle.demands.proofs.Exports.{exports_after_every_list}

-- ---- "After every list of calls the record shows what document 01 lays down": every clause is a named part of rules:Claims.AfterList, what
-- two runs share of rules:Shared.Agree. Of every run of the code, from the fresh record of a type number: of its type, or of type 1 beside
-- refusal 1.

pub record_shows : AfterEveryList CodeRun
record_shows = code_after_every_list

module _
    (battery : ℕ)
    (calls : List Event)
    (given : List ℕ)
    (after : Record)
    (contactor : Contactor)
    (run : CodeRun battery calls given after contactor) where
  owed : AfterList (type_or1 battery) calls given after contactor
  owed = record_shows battery calls given after contactor run

  -- both stores as the exports write them, oldest entry first, into any buffer
  pub stores_are_exported : StoresExported CodeLong CodeShort (type_or1 battery) calls after
  stores_are_exported = exports_after_every_list battery calls given after contactor run

  -- what was exported reads back as the store that document 01 lays down, and then as "end" where it ends
  pub exported_long_term_reads_back : (κs : Lfts 1) (buffer left : List ℕ) (n : ℕ) → CodeLong after buffer (bytes n) left
      → ReadAs entries (entry-reader κs) (take n left) n (long_term (type_or1 battery) (accepted calls))
  exported_long_term_reads_back κs buffer left n c = rw (← owed.shared.long_term) (long_export_reads_back κs after buffer left n c)

  pub exported_short_term_reads_back : (κs : Lfts 1) (buffer left : List ℕ) (n : ℕ) → CodeShort after buffer (bytes n) left
      → ReadAs entries (entry-reader κs) (take n left) n (short_term (type_or1 battery) (accepted calls))
  exported_short_term_reads_back κs buffer left n c = rw (← owed.shared.short_term) (short_export_reads_back κs after buffer left n c)

module _ (κs : Lfts 1) where
  -- ---- "each event or stored record written reads back as itself": any number of them, written one after the other

  pub events_read_back : {es : List Event} {before after : List ℕ} {used : ℕ} → Wrote events (event-writer κs) es before after used
      → (log : Bor (List ℕ)) → log.now ≡ take used after → ReadsBack events (event-reader κs) log 0 es
  events_read_back = events_written_then_read κs

  pub entries_read_back : {es : List Entry} {before after : List ℕ} {used : ℕ} → Wrote entries (entry-writer κs) es before after used
      → (log : Bor (List ℕ)) → log.now ≡ take used after → ReadsBack entries (entry-reader κs) log 0 es
  entries_read_back = entries_written_then_read κs

  -- ---- "and what is read is written again as the same bytes": one by one, and a log as a whole

  pub event_written_again : (log : Bor (List ℕ)) (at next : ℕ) (e : Event) → (event-reader κs).Allows log at (Ok (Some (e, next)))
      → WrittenAgain events (event-writer κs) log.now at e next
  event_written_again = event_read_then_written κs

  pub entry_written_again : (log : Bor (List ℕ)) (at next : ℕ) (e : Entry) → (entry-reader κs).Allows log at (Ok (Some (e, next)))
      → WrittenAgain entries (entry-writer κs) log.now at e next
  entry_written_again = entry_read_then_written κs

  pub event_log_written_again : {log : Bor (List ℕ)} {es : List Event} → ReadToEnd events (event-reader κs) log 0 es
      → Whole events (event-writer κs) log.now es
  event_log_written_again = event_log_whole κs

  pub entry_log_written_again : {log : Bor (List ℕ)} {es : List Entry} → ReadToEnd entries (entry-reader κs) log 0 es
      → Whole entries (entry-writer κs) log.now es
  entry_log_written_again = entry_log_whole κs
