-- A kind with its values: written and read, read and written again, by any list of forms.
use Prim.Native.Nat.{ℕ, suc, ◌+◌, ◌-◌}
use mathlib.Core.List.{List, [], ◌∷◌, ◌++◌, append-nil}
use mathlib.Core.Path.{◌≡◌, sym, ap, ap₂, ◌∙◌}
use native.Mathlib.Nat.{add-zero}
use native.Mathlib.Numerals.{add-one}
use native.Mathlib.Omega.{arith}
use lib.IntN.{ℤ}
use lib.ListN.{length, get_or, take, drop, length-append, length-drop, take-append-drop}
use lib.Seq.{drop-cons, drop-drop, take_at, take_all, get_or-drop, length-take-le}
use Rattle.rules.proofs.ByteLaws.{Stands, stands, reads}
use Rattle.rules.specs.Bytes.{Field, Form, AreBytes, fields_of, body_size, values_at, read_at, fields_bytes, InFields, InRange}
use Rattle.rules.specs.Numbers.{found}
use Rattle.roundtrip.proofs.Digits.{take_bytes, drop_bytes}
use Rattle.roundtrip.proofs.Fields.{fields_size, fields_read, fields_range, fields_written}
use Rattle.roundtrip.specs.Chains.{bytes_of}

module _ (forms : List Form) (log : List ℕ) (at : ℕ) where
  -- written, then read
  module _ (kind : ℕ) (values : List ℤ) (rest : List ℕ) (range : InRange forms kind values) (written : drop at log ≡ bytes_of forms kind values ++ rest) where
    abbrev body : List ℕ
    body = fields_bytes (fields_of forms kind) values

    sized : length body ≡ body_size forms kind
    sized = fields_size (fields_of forms kind) values range.fields

    left : length log - at ≡ suc (length (body ++ rest))
    left = sym (length-drop at log) ∙ ap length written

    first : get_or log at 0 ≡ kind
    first = ap (λ (i : ℕ). get_or log i 0) (sym (add-zero at)) ∙ (sym (get_or-drop at log 0 0) ∙ ap (λ (l : List ℕ). get_or l 0 0) written)

    part : take (body_size forms kind) (drop (at + 1) log) ≡ body
    part = ap (take (body_size forms kind)) (sym (drop-drop 1 at log) ∙ ap (drop 1) written) ∙ take_at body rest (body_size forms kind) sized

    pub read_back : read_at forms log at ≡ found kind values (at + length (bytes_of forms kind values))
    read_back =
        let l = simp length-append at left in
        let s = sized in
        let r = fields_read (fields_of forms kind) values body 0 [] range.fields (sym (append-nil body)) in
        reads forms log at (record {
          there = omega arith;
          first = first;
          known = rw first range.known;
          room = rw first (omega arith);
          listed = rw (first, part) r.1;
          body = rw (first, part) r.0;
          after = rw first (omega arith);
        })

  -- read, then written: in range, and the very bytes that were read
  pub record Again (kind : ℕ) (values : List ℤ) (next : ℕ) : Type 0 where
    pub range : InRange forms kind values
    pub bytes : drop at log ≡ bytes_of forms kind values ++ drop next log
    pub after : next ≡ at + length (bytes_of forms kind values)

  module _ (bytes : AreBytes log) (kind : ℕ) (values : List ℤ) (next : ℕ) (read : read_at forms log at ≡ found kind values next) where
    s : Stands forms log at kind values next
    s = stands forms log at read

    abbrev handed : List ℕ
    handed = take (body_size forms kind) (drop (at + 1) log)

    abbrev fields : List Field
    fields = fields_of forms kind

    handed_size : length handed ≡ body_size forms kind
    handed_size = length-take-le (body_size forms kind) (drop (at + 1) log) (rw (length-drop (at + 1) log) (rw s.first at s.room))

    handed_bytes : AreBytes handed
    handed_bytes = take_bytes (drop (at + 1) log) (drop_bytes log bytes (at + 1)) (body_size forms kind)

    handed_values : values_at fields handed 0 ≡ values
    handed_values = rw s.first at s.body

    in_fields : InFields fields values
    in_fields = rw handed_values at (fields_range handed handed_bytes fields 0 (rw s.first at s.listed))

    body_again : fields_bytes fields values ≡ handed
    body_again =
        rw handed_values at (fields_written handed handed_bytes fields 0 (omega (arith, handed_size)))
        ∙ take_all (body_size forms kind) handed (omega (arith, handed_size))

    after : at + 1 + body_size forms kind ≡ next
    after = rw s.first at s.after

    tail : drop (at + 1) log ≡ fields_bytes fields values ++ drop next log
    tail =
        sym (take-append-drop (body_size forms kind) (drop (at + 1) log))
        ∙ ap₂ (λ (x y : List ℕ). x ++ y) (sym body_again) (drop-drop (body_size forms kind) (at + 1) log ∙ ap (λ (n : ℕ). drop n log) after)

    pub read_again : Again kind values next
    read_again = record {
      range = record { known = rw s.first at s.known; fields = in_fields };
      bytes = drop-cons log at 0 s.there ∙ ap₂ (λ (k : ℕ) (l : List ℕ). k ∷ l) s.first (ap (λ (n : ℕ). drop n log) (sym (add-one at)) ∙ tail);
      after = omega (arith, after, ap length body_again ∙ handed_size);
    }
