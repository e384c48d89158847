-- What an export wrote reads back as the store's entries and then "end", through the contracts of the exports and of `read_entry`.
use Prim.Native.Nat.{ℕ, zero, suc, ◌≤◌, ◌<◌}
use mathlib.Core.Bool.{Bool, true, false}
use mathlib.Core.List.{List, [], ◌∷◌, ◌++◌}
use mathlib.Core.Path.{◌≡◌, refl, sym, ap, ap₂, ◌∙◌}
use native.Mathlib.Omega.{arith}
use contract.Lifetimes.{Lfts}
use lib.ListN.{length, take, drop}
use lib.Seq.{take_at}
use mir.Syntax.{w32}
use mir.Val.{SFits}
use Rattle.rules.specs.Lists.{tabulate}
use Rattle.rules.specs.Bytes.{InRange, entry_forms}
use Rattle.rules.specs.Numbers.{bytes, entry_kind, entry_values}
use Rattle.rules.specs.Shown.{long_slot, short_slot, entry_as, entry_of, long_entries, short_entries}
use Rattle.rules.specs.Soundness.{ProtectionsBelow8}
use Rattle.rules.specs.declared.battery.Record.{Record}
use Rattle.rules.specs.declared.stores.Entry.{Entry}
use Rattle.rules.specs.declared.stores.Slot.{Slot}
use Rattle.rules.specs.declared.stores.LongTerm.{LongTerm}
use Rattle.rules.specs.declared.stores.ShortTerm.{ShortTerm}
use Rattle.export.proofs.Allowed.{CodeLong, CodeShort, long_wrote, short_wrote}
use Rattle.export.specs.Exports.{InMachine}
use Rattle.export.specs.Exports.{all_bytes as export_bytes}
use Rattle.roundtrip.proofs.Chains.{all_read}
use Rattle.roundtrip.proofs.Entries.{entries, entry_due, entry_range, reader}
use Rattle.roundtrip.specs.Chains.{all_bytes, AllInRange, ReadAs}

-- ---- the entries of a store are in range

range_as : (slot : Slot) (release : Bool) → slot.time.0 < 4_294_967_296 → slot.protection ≤ 7 → SFits w32 slot.value
    → InRange entry_forms (entry_kind (entry_as slot release)) (entry_values (entry_as slot release))
range_as slot true time listed fits = entry_range (entry_as slot true) (time, omega arith) listed
range_as slot false time listed fits = entry_range (entry_as slot false) (time, omega arith, fits) listed

range_first : (place : ℕ → Entry) (n : ℕ) → ((i : ℕ) → i < n → InRange entry_forms (entry_kind (place i)) (entry_values (place i)))
    → AllInRange entries (tabulate n place)
range_first place zero each = tt
range_first place (suc n) each = (each zero (omega arith), range_first (λ k. place (suc k)) n (λ i h. each (suc i) (omega (arith, h))))

places_range : (slots : ℕ → Slot) (n : ℕ) → ((i : ℕ) → i < n → (slots i).protection ≤ 7) → InMachine slots
    → AllInRange entries (tabulate n (λ i. entry_of (slots i)))
places_range slots n listed machine =
    range_first (λ i. entry_of (slots i)) n (λ i h. range_as (slots i) (slots i).release (machine i).0 (listed i h) (machine i).1)

long_range : (s : LongTerm) → ProtectionsBelow8 s.count s.protections → InMachine (long_slot s) → AllInRange entries (long_entries s)
unfolding long_entries
long_range s = places_range (long_slot s) s.count

short_range : (s : ShortTerm) → ProtectionsBelow8 s.count s.protections → InMachine (short_slot s) → AllInRange entries (short_entries s)
unfolding short_entries
short_range s = places_range (short_slot s) s.count

-- ---- and the bytes due are those of the round trips

same_bytes : (es : List Entry) → export_bytes es ≡ all_bytes entries es
same_bytes [] = refl
same_bytes (e ∷ es) = ap₂ (λ (x y : List ℕ). x ++ y) (entry_due e) (same_bytes es)

module _ (κs : Lfts 1) where
  read_as : (es : List Entry) (buffer left : List ℕ) (n : ℕ) → AllInRange entries es → n ≡ length (export_bytes es)
      → left ≡ export_bytes es ++ drop (length (export_bytes es)) buffer → ReadAs entries (reader κs) (take n left) n es
  read_as es buffer left n range count contents =
      let is : take n left ≡ export_bytes es = ap (take n) contents ∙ take_at (export_bytes es) _ n (sym count) in
      all_read entries (reader κs) (take n left) n es range (is ∙ same_bytes es) (count ∙ sym (ap length is))

  -- Of every record and buffer for which `export_long` answers n: the first n bytes read as the long-term entries in order, then "end" at n.
  pub long_export_reads_back : (r : Record) (buffer left : List ℕ) (n : ℕ) → CodeLong r buffer (bytes n) left
      → ReadAs entries (reader κs) (take n left) n (long_entries r.stores.long)
  long_export_reads_back r buffer left n c =
      let w = long_wrote c in
      read_as (long_entries r.stores.long) buffer left n (long_range r.stores.long w.sound.long_protections w.machine) w.count w.contents

  -- The same of `export_short` and the short-term entries.
  pub short_export_reads_back : (r : Record) (buffer left : List ℕ) (n : ℕ) → CodeShort r buffer (bytes n) left
      → ReadAs entries (reader κs) (take n left) n (short_entries r.stores.short)
  short_export_reads_back r buffer left n c =
      let w = short_wrote c in
      read_as (short_entries r.stores.short) buffer left n (short_range r.stores.short w.sound.short_protections w.machine) w.count w.contents
