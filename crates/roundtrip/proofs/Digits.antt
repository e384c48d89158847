-- Digits to the base 256 and the number that they are, over how many they are.
use Prim.Native.Nat.{ℕ, zero, suc, ◌+◌, ◌*◌, ◌/◌, ◌%◌, ◌^◌, ◌<◌, ◌≤◌}
use mathlib.Core.List.{List, [], ◌∷◌, ◌++◌}
use mathlib.Core.Path.{◌≡◌, refl, sym, ap, ◌∙◌}
use native.Mathlib.Decide.{dec_lt}
use native.Mathlib.Nat.{div-add-mod'}
use native.Mathlib.Omega.{arith}
use lib.Dec.{lit<}
use lib.ListN.{length, get_or, take, drop, length-take, get_or-eq_default}
use lib.Seq.{drop-cons, get_or-drop, get_or-take}
use Rattle.rules.specs.Bytes.{little_endian, digits, AreBytes}

pub length_digits : (n x : ℕ) → length (digits n x) ≡ n
length_digits zero x = refl
length_digits (suc n) x = ap suc (length_digits n (x / 256))

-- ---- a number from a position on is the number of what stands there

past_one : (n : ℕ) (a : ℕ) (l : List ℕ) (at : ℕ) → little_endian n (a ∷ l) (suc at) ≡ little_endian n l at
past_one zero a l at = refl
past_one (suc n) a l at = ap (λ (m : ℕ). get_or l at 0 + 256 * m) (past_one n a l (suc at))

nothing : (n at : ℕ) → little_endian n [] at ≡ 0
nothing zero at = refl
nothing (suc n) at = rw (nothing n (suc at))

pub number_from : (n : ℕ) (l : List ℕ) (at : ℕ) → little_endian n l at ≡ little_endian n (drop at l) 0
number_from n l zero = refl
number_from n [] (suc at) = nothing n (suc at) ∙ sym (nothing n 0)
number_from n (a ∷ l) (suc at) = past_one n a l at ∙ number_from n l at

-- ---- there and back

pub number_of_digits : (n x : ℕ) (rest : List ℕ) → x < 256 ^ n → little_endian n (digits n x ++ rest) 0 ≡ x
number_of_digits zero x rest h = omega arith
number_of_digits (suc n) x rest h =
    let ih = number_of_digits n (x / 256) rest (omega arith) in
    rw (past_one n (x % 256) (digits n (x / 256) ++ rest) 0, ih) (omega (arith, div-add-mod' x 256))

module _ (l : List ℕ) (bytes : AreBytes l) where
  pub number_below : (n at : ℕ) → little_endian n l at < 256 ^ n
  number_below zero at = lit< tt
  number_below (suc n) at = omega (arith, bytes at, number_below n (suc at))

  pub digits_of_number : (n at : ℕ) → at + n ≤ length l → digits n (little_endian n l at) ≡ take n (drop at l)
  digits_of_number zero at h = refl
  digits_of_number (suc n) at h =
      let b = bytes at in
      let m = little_endian n l (suc at) in
      let low : (get_or l at 0 + 256 * m) % 256 ≡ get_or l at 0 = omega arith in
      let high : (get_or l at 0 + 256 * m) / 256 ≡ m = omega arith in
      rw (low, high, digits_of_number n (suc at) (omega arith), drop-cons l at 0 (omega arith))

  -- ---- parts of bytes are bytes

  pub drop_bytes : (n : ℕ) → AreBytes (drop n l)
  drop_bytes n i = rw (get_or-drop n l i 0) (bytes (n + i))

  pub take_bytes : (n : ℕ) → AreBytes (take n l)
  take_bytes n i = go (dec_lt i n)
    where
      go : Dec (i < n) → get_or (take n l) i 0 < 256
      go (yes h) = rw (get_or-take n l i 0 h) (bytes i)
      go (no h) = rw (get_or-eq_default (take n l) 0 {n = i} (simp length-take (omega arith))) (lit< tt)
