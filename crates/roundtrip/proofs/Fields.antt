-- A field's bytes and the value that they are, then the bytes and values of several fields.
use Prim.Native.Nat.{ℕ, ◌+◌, ◌^◌, ◌≤◌}
use mathlib.Core.Bool.{true, and-eq-true_iff}
use mathlib.Core.List.{List, [], ◌∷◌, ◌++◌, append_assoc}
use mathlib.Core.Path.{◌≡◌, refl, sym, ap, ap₂, ◌∙◌}
use native.Mathlib.Nat.{add-zero}
use native.Mathlib.Omega.{arith}
use lib.IntN.{ℤ, pos, negsuc, nat_abs}
use lib.ListN.{length, get_or, take, drop, length-append}
use lib.Seq.{drop_at, drop-drop, take-add, get_or-drop, drop-cons}
use mir.Syntax.{Width, w16, w32}
use mir.Val.{SFits, to_z, of_z, bits}
use mir.ValLaws.{to_z-of_z, of_z-to_z, of_z_fits, to_z-Fits}
use Rattle.rules.specs.Bytes.{Field, u16, u32, i16, i32, one_of, size, sizes, AreBytes, little_endian, digits, is_in, is_below, value_at, values_at, is_listed, listed_at, field_bytes, fields_bytes, InField, InFields}
use Rattle.roundtrip.proofs.Digits.{length_digits, number_from, number_of_digits, number_below, digits_of_number}

-- ---- one field

pub field_size : (f : Field) (v : ℤ) → length (field_bytes f v) ≡ size f
field_size u16 v = length_digits 2 (nat_abs v)
field_size u32 v = length_digits 4 (nat_abs v)
field_size i16 v = length_digits 2 (of_z w16 v)
field_size i32 v = length_digits 4 (of_z w32 v)
field_size (one_of allowed) v = refl

byte_from : (l : List ℕ) (at : ℕ) → get_or l at 0 ≡ get_or (drop at l) 0 0
byte_from l at = rw (get_or-drop at l 0 0, add-zero)

-- a value from a position on is the value of what stands there
value_from : (f : Field) (l : List ℕ) (at : ℕ) → value_at f l at ≡ value_at f (drop at l) 0
value_from u16 l at = ap pos (number_from 2 l at)
value_from u32 l at = ap pos (number_from 4 l at)
value_from i16 l at = ap (to_z w16) (number_from 2 l at)
value_from i32 l at = ap (to_z w32) (number_from 4 l at)
value_from (one_of allowed) l at = ap pos (byte_from l at)

listed_from : (f : Field) (l : List ℕ) (at : ℕ) → is_listed f l at ≡ is_listed f (drop at l) 0
listed_from u16 l at = refl
listed_from u32 l at = refl
listed_from i16 l at = refl
listed_from i32 l at = refl
listed_from (one_of allowed) l at = ap (is_in allowed) (byte_from l at)

unsigned_read : (n : ℕ) (v : ℤ) (rest : List ℕ) → is_below (256 ^ n) v → pos (little_endian n (digits n (nat_abs v) ++ rest) 0) ≡ v
unsigned_read n (pos x) rest h = ap pos (number_of_digits n x rest h)
unsigned_read n (negsuc x) rest h = absurd h

signed_read : (w : Width) (n : ℕ) (v : ℤ) (rest : List ℕ) → 2 ^ bits w ≡ 256 ^ n → SFits w v
    → to_z w (little_endian n (digits n (of_z w v) ++ rest) 0) ≡ v
signed_read w n v rest e f =
    ap (to_z w) (number_of_digits n (of_z w v) rest (rw e at (of_z_fits w v f).fits)) ∙ to_z-of_z w v f

field_read : (f : Field) (v : ℤ) (rest : List ℕ) → InField f v → value_at f (field_bytes f v ++ rest) 0 ≡ v
field_read u16 v rest h = unsigned_read 2 v rest h
field_read u32 v rest h = unsigned_read 4 v rest h
field_read i16 v rest h = signed_read w16 2 v rest refl h
field_read i32 v rest h = signed_read w32 4 v rest refl h
field_read (one_of allowed) (pos x) rest h = refl
field_read (one_of allowed) (negsuc x) rest h = absurd h.0

field_listed : (f : Field) (v : ℤ) (rest : List ℕ) → InField f v → is_listed f (field_bytes f v ++ rest) 0 ≡ true
field_listed u16 v rest h = refl
field_listed u32 v rest h = refl
field_listed i16 v rest h = refl
field_listed i32 v rest h = refl
field_listed (one_of allowed) v rest h = h.1

module _ (l : List ℕ) (bytes : AreBytes l) where
  field_range : (f : Field) (at : ℕ) → is_listed f l at ≡ true → InField f (value_at f l at)
  field_range u16 at h = number_below l bytes 2 at
  field_range u32 at h = number_below l bytes 4 at
  field_range i16 at h = to_z-Fits w16 _ (record { fits = number_below l bytes 2 at })
  field_range i32 at h = to_z-Fits w32 _ (record { fits = number_below l bytes 4 at })
  field_range (one_of allowed) at h = (bytes at, h)

  field_written : (f : Field) (at : ℕ) → at + size f ≤ length l → field_bytes f (value_at f l at) ≡ take (size f) (drop at l)
  field_written u16 at h = digits_of_number l bytes 2 at h
  field_written u32 at h = digits_of_number l bytes 4 at h
  field_written i16 at h = ap (digits 2) (of_z-to_z w16 _ (record { fits = number_below l bytes 2 at })) ∙ digits_of_number l bytes 2 at h
  field_written i32 at h = ap (digits 4) (of_z-to_z w32 _ (record { fits = number_below l bytes 4 at })) ∙ digits_of_number l bytes 4 at h
  field_written (one_of allowed) at h = rw (drop-cons l at 0 (omega arith))

-- ---- several

pub fields_size : (fs : List Field) (vs : List ℤ) → InFields fs vs → length (fields_bytes fs vs) ≡ sizes fs
fields_size [] [] h = refl
fields_size [] (v ∷ vs) h = refl
fields_size (f ∷ fs) [] h = absurd h
fields_size (f ∷ fs) (v ∷ vs) h = simp length-append (ap₂ (λ (m n : ℕ). m + n) (field_size f v) (fields_size fs vs h.1))

-- where bytes of values in range stand, the values are read
pub fields_read : (fs : List Field) (vs : List ℤ) (l : List ℕ) (at : ℕ) (rest : List ℕ) → InFields fs vs → drop at l ≡ fields_bytes fs vs ++ rest
    → (values_at fs l at ≡ vs) × (listed_at fs l at ≡ true)
fields_read [] [] l at rest h e = (refl, refl)
fields_read [] (v ∷ vs) l at rest h e = absurd h
fields_read (f ∷ fs) [] l at rest h e = absurd h
fields_read (f ∷ fs) (v ∷ vs) l at rest h e =
    let here : drop at l ≡ field_bytes f v ++ (fields_bytes fs vs ++ rest) = e ∙ append_assoc (field_bytes f v) (fields_bytes fs vs) rest in
    let later : drop (at + size f) l ≡ fields_bytes fs vs ++ rest =
    sym (drop-drop (size f) at l) ∙ (ap (drop (size f)) here ∙ drop_at (field_bytes f v) (fields_bytes fs vs ++ rest) (size f) (field_size f v)) in
    let ih = fields_read fs vs l (at + size f) rest h.1 later in
    let value : value_at f l at ≡ v = value_from f l at ∙ rw here (field_read f v (fields_bytes fs vs ++ rest) h.0) in
    let listed : is_listed f l at ≡ true = listed_from f l at ∙ rw here (field_listed f v (fields_bytes fs vs ++ rest) h.0) in
    (λ i. value i ∷ ih.0 i, rw (listed, ih.1))

module _ (l : List ℕ) (bytes : AreBytes l) where
  -- what is read is in range
  pub fields_range : (fs : List Field) (at : ℕ) → listed_at fs l at ≡ true → InFields fs (values_at fs l at)
  fields_range [] at h = tt
  fields_range (f ∷ fs) at h =
      let both = (and-eq-true_iff (is_listed f l at) (listed_at fs l (at + size f))).0 h in
      (field_range l bytes f at both.0, fields_range fs (at + size f) both.1)

  -- and is written as the bytes that were read
  pub fields_written : (fs : List Field) (at : ℕ) → at + sizes fs ≤ length l → fields_bytes fs (values_at fs l at) ≡ take (sizes fs) (drop at l)
  fields_written [] at h = refl
  fields_written (f ∷ fs) at h =
      ap₂ (λ (x y : List ℕ). x ++ y) (field_written l bytes f at (omega arith)) (fields_written fs (at + size f) (omega arith))
      ∙ (rw (← drop-drop (size f) at l) (sym (take-add (size f) (sizes fs) (drop at l))))
