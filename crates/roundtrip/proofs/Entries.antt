-- The round trips of entries, through the contracts of `read_entry` and `write_entry`.
use Prim.Native.Nat.{ℕ, ◌≤◌}
use mathlib.Core.Bool.{true, true≢false}
use mathlib.Core.List.{List}
use mathlib.Core.Path.{◌≡◌, refl, sym, ◌∙◌}
use native.Mathlib.Decide.{dec_le}
use native.Mathlib.Omega.{arith}
use borrow.Author.Tests.{lt-ltb, le-ltb}
use lib.ListN.{length, take}
use denote.Ref.{Bor}
use contract.Lifetimes.{Lfts}
use Rattle.std.specs.Prelude.{None, Some, Ok}
use Rattle.rules.proofs.Injective.{read_entry_injective}
use Rattle.rules.specs.Bytes.{is_in, InRange, entry_forms, entry_bytes, protection_of, entry_write_refusal, written_or}
use Rattle.rules.specs.Numbers.{entry_kind, entry_values, answer_of_read_entry, bytes}
use Rattle.rules.specs.declared.stores.Entry.{Entry}
use Rattle.rules.specs.declared.stores.Entry.TheVariants.{Trip, Release}
use Rattle.word_reader.proofs.Ranges.{above, within}
use Rattle.word_reader.specs.Decoding.{numbers_from}
use Rattle.entry_reader.proofs.read_entry.Reads as read-entry
use Rattle.entry_writer.proofs.write_entry.Reads as write-entry
use Rattle.entry_writer.specs.Machine.{EntryInMachine}
use Rattle.roundtrip.proofs.Chains.{written_then_read, read_then_written, whole_log}
use Rattle.roundtrip.specs.Chains.{ReadResult, Items, Reader, Writer, bytes_of, ReadsBack, ReadToEnd, Wrote, WrittenAgain, Whole}

abbrev pub entries : Items
entries = record { Item = Entry; forms = entry_forms; kind = entry_kind; values = entry_values }

pub entry_due : (e : Entry) → entry_bytes e ≡ bytes_of entry_forms (entry_kind e) (entry_values e)
unfolding entry_bytes
entry_due e = refl

-- a protection number in range is not above 7
listed_most : (p : ℕ) → is_in (numbers_from 8 0) p ≡ true → p ≤ 7
listed_most p h = go (dec_le p 7)
  where
    go : Dec (p ≤ 7) → p ≤ 7
    go (yes k) = k
    go (no k) = absurd (true≢false (sym h ∙ above 8 0 p (omega arith)))

protection_most : (e : Entry) → InRange entry_forms (entry_kind e) (entry_values e) → protection_of e ≤ 7
protection_most (Trip t p v) range = listed_most p range.fields.1.0.1
protection_most (Release t p) range = listed_most p range.fields.1.0.1

pub entry_fits : (e : Entry) (buffer : List ℕ) → InRange entry_forms (entry_kind e) (entry_values e) → length (entry_bytes e) ≤ length buffer
    → entry_write_refusal e buffer ≡ 0
entry_fits e buffer range h = rw (le-ltb 7 (protection_of e) (protection_most e range), le-ltb (length buffer) (length (entry_bytes e)) h)

-- nor is the protection number of an entry that the writer accepts
pub protection_accepted : (e : Entry) (buffer : List ℕ) (n : ℕ) → bytes n ≡ written_or (entry_write_refusal e buffer) (length (entry_bytes e)) → protection_of e ≤ 7
protection_accepted e buffer n accepted = go (dec_le (protection_of e) 7)
  where
    go : Dec (protection_of e ≤ 7) → protection_of e ≤ 7
    go (yes k) = k
    go (no k) =
        let refused4 = rw (lt-ltb 7 (protection_of e) (omega arith)) at accepted in
        absurd (cc)

-- an entry with its fields' types and a protection number up to 7 is in range
pub entry_range : (e : Entry) → EntryInMachine e → protection_of e ≤ 7 → InRange entry_forms (entry_kind e) (entry_values e)
entry_range (Trip t p v) machine most =
    record { known = refl; fields = (machine.0, ((machine.1, within 8 0 p (omega arith) (omega arith)), (machine.2, tt))) }
entry_range (Release t p) machine most =
    record { known = refl; fields = (machine.0, ((machine.1, within 8 0 p (omega arith) (omega arith)), tt)) }

module _ (κs : Lfts 1) where
  -- what `read_entry` may answer, and what `write_entry` may answer and leave, as their contracts have it
  abbrev pub reader : Reader entries
  reader = record {
    Answer = ReadResult Entry;
    Found = λ e next. Ok (Some (e, next));
    End = Ok None;
    answer = answer_of_read_entry;
    of_found = λ e next. refl;
    of_end = refl;
    same = read_entry_injective;
    Allows = λ log at r. read-entry.Post κs (log, (at, tt)) r (log, (at, tt));
    right = λ allowed. allowed.0;
    logged = λ allowed. allowed.1;
  }

  abbrev pub writer : Writer entries
  writer = record {
    due = entry_bytes;
    is_due_lem = entry_due;
    refusal = entry_write_refusal;
    fits = entry_fits;
    Allows = λ e before r after. write-entry.Post κs (e, (before, tt)) r (e, (after, tt));
    right = λ allowed. (allowed.0, allowed.1.0);
    ranged = λ {a = e} {before} {n} allowed. entry_range e allowed.1.1 (protection_accepted e before.now n allowed.0);
  }

  -- Entries written one after the other read back in order, each with the position right after it, and then "end".
  pub entries_written_then_read : {es : List Entry} {before after : List ℕ} {used : ℕ} → Wrote entries writer es before after used
      → (log : Bor (List ℕ)) → log.now ≡ take used after → ReadsBack entries reader log 0 es
  entries_written_then_read = written_then_read entries reader writer

  -- An entry that was read is in range, and where there is room it is written again as the very bytes that were read.
  pub entry_read_then_written : (log : Bor (List ℕ)) (at next : ℕ) (e : Entry) → reader.Allows log at (Ok (Some (e, next)))
      → WrittenAgain entries writer log.now at e next
  entry_read_then_written log at next e read = read_then_written entries reader writer {log = log} read

  -- A log that reads to "end" is exactly the bytes of the entries that were read.
  pub entry_log_whole : {log : Bor (List ℕ)} {es : List Entry} → ReadToEnd entries reader log 0 es → Whole entries writer log.now es
  entry_log_whole = whole_log entries reader writer
