-- Counting up in digits is adding 1.
use mathlib.Core.Path.{◌≡◌, refl, sym, ap, subst, ◌∙◌}
use mathlib.Core.Bool.{Bool, true, false, cond}
use mathlib.Core.List.{List, [], ◌∷◌, ◌++◌}
use Prim.Native.Nat.{ℕ, zero, suc, ◌+◌, ◌-◌, ◌/◌, ◌%◌, ◌<◌, ◌≤◌}
use native.Mathlib.Nat.{not-suc-le-zero}
use native.Mathlib.Omega.{arith}
use borrow.Author.Tests.{ltb-true, ltb-false, lt-ltb, le-ltb}
use lib.Dec.{ltb}
use lib.ListN.{length, get_or, set, replicate, length-append}
use lib.Seq.{append_snoc, get_or-append_seam, set-append_seam}
use Rattle.rules.specs.Text.{decimal}
use Rattle.rules.proofs.Decimals.{decimal_small, decimal_large}
use Rattle.digits.proofs.Spelling.{digit_small}
use Rattle.counter.specs.Counting.{padded, digits_in, carried, grown}

-- ---- a list of digits and the last one

module _ (front : List ℕ) (d : ℕ) where
  length_snoc : length (front ++ d ∷ []) ≡ suc (length front)
  length_snoc = length-append front (d ∷ []) ∙ omega arith

  module _ (w : ℕ) where
    -- what stands behind the last one
    abbrev zeros : List ℕ
    zeros = replicate (w - suc (length front)) 48

    snoc_padded : padded w (front ++ d ∷ []) ≡ front ++ d ∷ zeros
    snoc_padded = rw length_snoc (append_snoc front d zeros)

module _ (front : List ℕ) (w : ℕ) (room : length front < w) where
  -- a zero at the end is one of those behind
  zero_padded : padded w (front ++ 48 ∷ []) ≡ padded w front
  zero_padded =
      let one_more : w - length front ≡ suc (w - suc (length front)) = omega (arith, room) in
      snoc_padded front 48 w ∙ rw one_more refl

  carried_small : (d : ℕ) → d < 57 → carried (suc (length front)) (padded w (front ++ d ∷ [])) ≡ padded w (front ++ (d + 1) ∷ [])
  carried_small d small =
      rw (snoc_padded front d w, get_or-append_seam front d (zeros front d w) 0, lt-ltb d 57 small)
      (set-append_seam front d (zeros front d w) (d + 1) ∙ sym (snoc_padded front (d + 1) w))

  grown_small : (d : ℕ) → d < 57 → grown (suc (length front)) (padded w (front ++ d ∷ [])) ≡ 0
  grown_small d small = rw (snoc_padded front d w, get_or-append_seam front d (zeros front d w) 0, lt-ltb d 57 small) refl

  nine_set : set (front ++ 57 ∷ zeros front 57 w) (length front) 48 ≡ padded w front
  nine_set = set-append_seam front 57 (zeros front 57 w) 48 ∙ sym (snoc_padded front 48 w) ∙ zero_padded

  carried_nine : carried (suc (length front)) (padded w (front ++ 57 ∷ [])) ≡ carried (length front) (padded w front)
  carried_nine = rw (snoc_padded front 57 w, get_or-append_seam front 57 (zeros front 57 w) 0) (ap (carried (length front)) nine_set)

  grown_nine : grown (suc (length front)) (padded w (front ++ 57 ∷ [])) ≡ grown (length front) (padded w front)
  grown_nine = rw (snoc_padded front 57 w, get_or-append_seam front 57 (zeros front 57 w) 0) (ap (grown (length front)) nine_set)

-- at most one digit more
grown_one : (i : ℕ) (digits : List ℕ) → grown i digits ≤ 1
grown_one zero digits = omega arith
grown_one (suc i) digits = go (ltb (get_or digits i 0) 57) (grown_one i (set digits i 48))
  where
    go : (b : Bool) → grown i (set digits i 48) ≤ 1 → cond b 0 (grown i (set digits i 48)) ≤ 1
    go true h = omega arith
    go false h = h

-- ---- a number's digits

-- those before the last
abbrev lead : ℕ → List ℕ
lead n = cond (ltb n 10) [] (decimal (n / 10))

decimal_lead : (n : ℕ) → decimal n ≡ lead n ++ (48 + n % 10) ∷ []
decimal_lead n = go (ltb n 10) refl
  where
    go : (b : Bool) → ltb n 10 ≡ b → decimal n ≡ cond b [] (decimal (n / 10)) ++ (48 + n % 10) ∷ []
    go true e =
        let small = ltb-true n 10 e in
        let same : n % 10 ≡ n = omega (arith, small) in
        rw same (decimal_small n small ∙ ap (λ (d : ℕ). d ∷ []) (digit_small n small))
    go false e = decimal_large n (ltb-false n 10 e) ∙ ap (λ (d : ℕ). decimal (n / 10) ++ d ∷ []) (digit_small (n % 10) (omega arith))

-- below the last nine they stay as they are
lead_same : (n : ℕ) → n % 10 < 9 → lead (n + 1) ≡ lead n
lead_same n h = go (ltb n 10) refl
  where
    go : (b : Bool) → ltb n 10 ≡ b → lead (n + 1) ≡ cond b [] (decimal (n / 10))
    go true e = rw (lt-ltb (n + 1) 10 (omega (arith, h, ltb-true n 10 e))) refl
    go false e =
        let tenth : (n + 1) / 10 ≡ n / 10 = omega (arith, h) in
        rw (le-ltb (n + 1) 10 (omega (arith, ltb-false n 10 e)), tenth) refl

-- digits become others by counting up
abbrev Turned : ℕ → List ℕ → List ℕ → Type 0
Turned w digits next =
    (carried (length digits) (padded w digits) ≡ padded w next) × (length digits + grown (length digits) (padded w digits) ≡ length next)

module _ (w : ℕ) where
  small_turned : (front : List ℕ) (d : ℕ) → d < 57 → length front < w → Turned w (front ++ d ∷ []) (front ++ (d + 1) ∷ [])
  small_turned front d small fits =
      let size = length_snoc front d in
      let none = ap (λ (k : ℕ). grown k (padded w (front ++ d ∷ []))) size ∙ grown_small front w fits d small in (
        ap (λ (k : ℕ). carried k (padded w (front ++ d ∷ []))) size ∙ carried_small front w fits d small,
        omega (arith, none, size, length_snoc front (d + 1)),
      )

  nine_turned : (front next : List ℕ) → length front < w → length next < w → Turned w front next → Turned w (front ++ 57 ∷ []) (next ++ 48 ∷ [])
  nine_turned front next fits fits_next (digits, more) =
      let size = length_snoc front 57 in
      let same = ap (λ (k : ℕ). grown k (padded w (front ++ 57 ∷ []))) size ∙ grown_nine front w fits in (
        ap (λ (k : ℕ). carried k (padded w (front ++ 57 ∷ []))) size ∙ carried_nine front w fits ∙ digits ∙ sym (zero_padded next w fits_next),
        omega (arith, same, size, more, length_snoc next 48),
      )

  abbrev Next : ℕ → Type 0
  Next n = Turned w (decimal n) (decimal (n + 1))

  small_next : (n : ℕ) → n % 10 < 9 → length (decimal n) < w → Next n
  small_next n h room =
      let last : 48 + (n + 1) % 10 ≡ 48 + n % 10 + 1 = omega (arith, h) in
      let next : decimal (n + 1) ≡ lead n ++ (48 + n % 10 + 1) ∷ [] = decimal_lead (n + 1) ∙ rw (lead_same n h, last) refl in
      let fits : length (lead n) < w = omega (arith, ap length (decimal_lead n), length_snoc (lead n) (48 + n % 10), room) in
      rw (decimal_lead n, next) (small_turned (lead n) (48 + n % 10) (omega (arith, h)) fits)

  -- a nine alone, and a nine behind others
  nine_next : 1 < w → Next 9
  unfolding decimal
  nine_next room = let one_more : w - 1 ≡ suc (w - 2) = omega (arith, room) in (rw one_more refl, refl)

  large_next : (n : ℕ) → n % 10 ≡ 9 → 10 ≤ n → length (decimal n) < w → (length (decimal (n / 10)) < w → Next (n / 10)) → Next n
  large_next n h large room before =
      let tenth : (n + 1) / 10 ≡ n / 10 + 1 = omega (arith, h) in
      let none : (n + 1) % 10 ≡ 0 = omega (arith, h) in
      let nine : decimal n ≡ decimal (n / 10) ++ 57 ∷ [] = decimal_lead n ∙ rw (le-ltb n 10 large, h) refl in
      let two = le-ltb (n + 1) 10 (omega (arith, large)) in
      let next : decimal (n + 1) ≡ decimal (n / 10 + 1) ++ 48 ∷ [] = decimal_lead (n + 1) ∙ rw (two, tenth, none) refl in
      let fits : length (decimal (n / 10)) < w = omega (arith, ap length nine, length_snoc (decimal (n / 10)) 57, room) in
      let grows = grown_one (length (decimal (n / 10))) (digits_in w (n / 10)) in
      let size = length_snoc (decimal (n / 10)) 57 in
      let fits_next : length (decimal (n / 10 + 1)) < w = omega (arith, (before fits).1, grows, ap length nine, size, room) in
      rw (nine, next) (nine_turned (decimal (n / 10)) (decimal (n / 10 + 1)) fits fits_next (before fits))

  by_tenths : (most n : ℕ) → n < most → length (decimal n) < w → Next n
  by_tenths zero n h room = absurd (not-suc-le-zero h)
  by_tenths (suc most) n h room = by_last (ltb (n % 10) 9) refl (ltb n 10) refl (by_tenths most (n / 10))
    where
      by_last : (b : Bool) → ltb (n % 10) 9 ≡ b → (c : Bool) → ltb n 10 ≡ c → (n / 10 < most → length (decimal (n / 10)) < w → Next (n / 10)) → Next n
      by_last true e c f before = small_next n (ltb-true (n % 10) 9 e) room
      by_last false e true f before =
          let is : n ≡ 9 = omega (arith, ltb-false (n % 10) 9 e, ltb-true n 10 f) in
          subst (λ (k : ℕ). Next k) (sym is) (nine_next (omega (arith, room, ap (λ (k : ℕ). length (decimal k)) is, ap length (decimal_lead 9))))
      by_last false e false f before =
          let large = ltb-false n 10 f in
          large_next n (omega (arith, ltb-false (n % 10) 9 e)) large room (before (omega (arith, h, large)))

  pub successor : (n : ℕ) → length (decimal n) < w → Turned w (decimal n) (decimal (n + 1))
  successor n room = by_tenths (suc n) n (omega arith) room
