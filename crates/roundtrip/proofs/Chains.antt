-- Any number of items, written one after the other and read one after the other.
use Prim.Native.Nat.{ℕ, zero, suc, ◌+◌, ◌-◌}
use mathlib.Core.List.{List, [], ◌∷◌, ◌++◌}
use mathlib.Core.Path.{◌≡◌, refl, sym, ap, ◌∙◌}
use native.Mathlib.Omega.{arith}
use lib.ListN.{length, take, drop, length-drop, drop_of_length-le}
use lib.Seq.{take_at, drop-drop, take-append-add, drop-append_seam}
use denote.Ref.{Bor}
use denote.MutBor.{MutBor}
use Rattle.std.specs.Prelude.{Result, Ok, Err}
use Rattle.rules.proofs.ByteLaws.{read_end}
use Rattle.rules.specs.Bytes.{written_or, buffer_after}
use Rattle.rules.specs.Numbers.{bytes, answer_of_write}
use Rattle.rules.specs.declared.refusals.Refusal.{Refusal}
use Rattle.roundtrip.proofs.Forms.{read_back, Again, read_again}
use Rattle.roundtrip.specs.Chains.{Items, Reader, Writer, item_bytes, all_bytes, AllInRange, ReadsBack, ReadAs, ReadToEnd, ended, ReadToEnd.one as read_one, Wrote, none, Wrote.one as wrote-next, WrittenAgain, Whole}

module _ (I : Items) where
  -- ---- reading

  module _ (R : Reader I) (log : Bor (List ℕ)) where
    pub reads_back : (xs : List I.Item) (at : ℕ) → AllInRange I xs → drop at log.now ≡ all_bytes I xs → ReadsBack I R log at xs
    reads_back [] at h e =
        let none : length log.now - at ≡ 0 = sym (length-drop at log.now) ∙ ap length e in
        λ r g. R.same r R.End (R.right g ∙ ((read_end I.forms log.now at).0 (omega arith) ∙ sym R.of_end))
    reads_back (x ∷ xs) at h e =
        let n = length (item_bytes I x) in
        let later : drop (at + n) log.now ≡ all_bytes I xs =
        sym (drop-drop n at log.now) ∙ (ap (drop n) e ∙ drop-append_seam (item_bytes I x) (all_bytes I xs)) in (
          λ r g. R.same r (R.Found x (at + n))
              (R.right g ∙ (read_back I.forms log.now at (I.kind x) (I.values x) (all_bytes I xs) h.0 e ∙ sym (R.of_found x (at + n)))),
          reads_back xs (at + n) h.1 later,
        )

    -- what the reader gave is in range, and its bytes are those that were read
    pub gave : {at next : ℕ} {x : I.Item} → R.Allows log at (R.Found x next) → Again I.forms log.now at (I.kind x) (I.values x) next
    gave {at} {next} {x} g =
        read_again I.forms log.now at (R.logged g) (I.kind x) (I.values x) next (sym (R.right g) ∙ R.of_found x next)

    pub read_to_end : {at : ℕ} {xs : List I.Item} → ReadToEnd I R log at xs → drop at log.now ≡ all_bytes I xs
    read_to_end (ended {at} g) =
        drop_of_length-le log.now ((read_end I.forms log.now at).1 (sym (R.right g) ∙ R.of_end))
    read_to_end (read_one {x = x} g more) = (gave g).bytes ∙ ap (λ (l : List ℕ). item_bytes I x ++ l) (read_to_end more)

  -- the bytes of items in range, in a log of just them
  pub all_read : (R : Reader I) (written : List ℕ) (n : ℕ) (xs : List I.Item) → AllInRange I xs → written ≡ all_bytes I xs → n ≡ length written
      → ReadAs I R written n xs
  all_read R written n xs h is count = record {
    items = λ log e. reads_back R log xs 0 h (e ∙ is);
    ends = λ log e. reads_back R log [] n tt (drop_of_length-le log.now {i = n} (omega (arith, count, ap length e)));
  }

  -- ---- writing

  module _ (W : Writer I) where
    -- an accepted write: its bytes at the buffer's start, and nothing else changed
    accepted : (refusal n count : ℕ) (due before after : List ℕ) → bytes n ≡ written_or refusal count → after ≡ buffer_after refusal due before
        → (n ≡ count) × (after ≡ due ++ drop (length due) before)
    accepted zero n count due before after e f = ((cc), f)
    accepted (suc refusal) n count due before after e f = absurd (cc)

    wrote_one : {x : I.Item} {before after : MutBor (List ℕ)} {n : ℕ} → W.Allows x before (Ok n) after
        → (n ≡ length (item_bytes I x)) × (take n after.now ≡ item_bytes I x)
    wrote_one {x} {before} {after} {n} g =
        let right = W.right g in
        let done = accepted (W.refusal x before.now) n (length (W.due x)) (W.due x) before.now after.now right.0 right.1 in
        let is = W.is_due_lem x in
        (done.0 ∙ ap length is, ap (take n) done.1 ∙ (take_at (W.due x) _ n (sym done.0) ∙ is))

    pub wrote_all : {xs : List I.Item} {before after : List ℕ} {used : ℕ} → Wrote I W xs before after used → take used after ≡ all_bytes I xs
    wrote_all none = refl
    wrote_all (wrote-next {x} {n = n} {used} {rest} g more) =
        let w = wrote_one g in
        rw w.1 (ap (λ (k : ℕ). take (k + used) (item_bytes I x ++ rest)) w.0
        ∙ (take-append-add (item_bytes I x) rest used ∙ ap (λ (l : List ℕ). item_bytes I x ++ l) (wrote_all more)))

    wrote_range : {xs : List I.Item} {before after : List ℕ} {used : ℕ} → Wrote I W xs before after used → AllInRange I xs
    wrote_range none = tt
    wrote_range (wrote-next g more) = (W.ranged g, wrote_range more)

  -- ---- both

  module _ (R : Reader I) (W : Writer I) where
    -- Items written one after the other read back in order, each with the position right after it, and then "end".
    pub written_then_read : {xs : List I.Item} {before after : List ℕ} {used : ℕ} → Wrote I W xs before after used
        → (log : Bor (List ℕ)) → log.now ≡ take used after → ReadsBack I R log 0 xs
    written_then_read {xs} w log e = reads_back R log xs 0 (wrote_range W w) (e ∙ wrote_all W w)

    answered : (r : Result ℕ Refusal) (n : ℕ) → answer_of_write r ≡ bytes n → r ≡ Ok n
    answered (Ok m) n e = ap (λ (k : ℕ). Ok k) (cc)
    answered (Err m) n e = absurd (cc)

    pub read_then_written : {log : Bor (List ℕ)} {at next : ℕ} {x : I.Item} → R.Allows log at (R.Found x next) → WrittenAgain I W log.now at x next
    read_then_written {log} {at} {next} {x} g =
        let again = gave R log g in
        let n : next - at ≡ length (item_bytes I x) = omega (arith, again.after) in
        let is : W.due x ≡ take (next - at) (drop at log.now) =
        W.is_due_lem x ∙ sym (ap (take (next - at)) again.bytes ∙ take_at (item_bytes I x) _ (next - at) (sym n)) in
        let count : length (W.due x) ≡ next - at = ap length (W.is_due_lem x) ∙ sym n in
        record {
          range = again.range;
          bytes = is;
          written = λ {before} {after} {r} a room.
              let right = W.right a in
              let zero = W.fits x before.now again.range (rw count room) in
              (answered r (next - at) (rw (zero, count) at right.0), rw (zero, count, is) at right.1);
        }

    all_range : {log : Bor (List ℕ)} {at : ℕ} {xs : List I.Item} → ReadToEnd I R log at xs → AllInRange I xs
    all_range (ended g) = tt
    all_range {log} (read_one g more) = ((gave R log g).range, all_range more)

    pub whole_log : {log : Bor (List ℕ)} {xs : List I.Item} → ReadToEnd I R log 0 xs → Whole I W log.now xs
    whole_log {log} read = record {
      range = all_range read;
      bytes = read_to_end R log read;
      written = λ w. wrote_all W w ∙ sym (read_to_end R log read);
    }
