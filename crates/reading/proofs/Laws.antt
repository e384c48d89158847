-- Laws of the failed mask.
use Prim.Native.Nat.{ℕ, suc, ◌+◌, ◌*◌, ◌^◌, ◌%◌, ◌<◌, ◌≤◌}
use mathlib.Core.Path.{◌≡◌, refl, sym, ap, subst, ◌∙◌}
use mathlib.Core.Bool.{Bool, true, false, not, cond, ◌&&◌}
use mathlib.Core.List.{List, [], ◌∷◌}
use native.Mathlib.Nat.{pow-le-pow_right}
use native.Mathlib.Omega.{arith}
use borrow.Author.Tests.{eq-eqb, ne_eqb, eqb-true, eqb-false}
use lib.Bits.{bit_or, or_shifted_r}
use lib.Dec.{eqb}
use lib.ListN.{length, get_or}
use Rattle.std.proofs.lemmas.List.{get_or_default}
use Rattle.rules.specs.declared.sensors.Reading.{Reading}
use Rattle.rules.specs.Test.{in_range, plausible, mask_of, failed_mask}
use Rattle.rules.specs.Lists.{all}
use Rattle.rules.specs.Protections.{mask_below}
use Rattle.rules.specs.Shown.{bit_of}
use Rattle.rules.proofs.Bits.{mask_is, mask_below_lem}
use Rattle.rules.proofs.Mask.{bit_of_lem, mask_below_lem as mask_of_bound}

-- ---- the mask as the loop makes it: the bits of those before a sensor, and then its own

-- of a sensor that it failed
abbrev pub is_failed : List Bool → ℕ → Bool
is_failed oks n = not (get_or oks n false)

set : (mask n : ℕ) → mask < 2 ^ n → n < 13 → bit_or mask (1 * 2 ^ n % 65_536) ≡ mask + 2 ^ n
set mask n below h =
    let at_most : n ≤ 12 = omega arith in
    let weight : 2 ^ n ≤ 2 ^ 12 = pow-le-pow_right {n = 2} (omega arith) at_most in
    let fits : 1 * 2 ^ n % 65_536 ≡ 1 * 2 ^ n = omega (arith, weight) in
    rw fits (omega (arith, or_shifted_r 1 n mask below))

pub with_bit : (oks : List Bool) (mask n : ℕ) → n < 13 → mask ≡ mask_below (is_failed oks) n → get_or oks n false ≡ false
    → bit_or mask (1 * 2 ^ n % 65_536) ≡ mask_below (is_failed oks) (n + 1)
with_bit oks mask n h e failed =
    let below : mask < 2 ^ n = omega (arith, e, mask_below_lem (is_failed oks) n) in
    let more : bit_or mask (1 * 2 ^ n % 65_536) ≡ mask_below (is_failed oks) (suc n) = rw failed (omega (arith, e, set mask n below h)) in
    let next : suc n ≡ n + 1 = omega arith in
    more ∙ ap (mask_below (is_failed oks)) next

pub without_bit : (oks : List Bool) (mask n : ℕ) → mask ≡ mask_below (is_failed oks) n → get_or oks n false ≡ true
    → mask ≡ mask_below (is_failed oks) (n + 1)
without_bit oks mask n e ok =
    let same : mask ≡ mask_below (is_failed oks) (suc n) = rw ok (omega (arith, e)) in
    let next : suc n ≡ n + 1 = omega arith in
    same ∙ ap (mask_below (is_failed oks)) next

one_if_failed : (ok : Bool) → eqb (cond ok 0 1) 1 ≡ not ok
one_if_failed true = refl
one_if_failed false = refl

pub all_bits : (oks : List Bool) (mask n : ℕ) → length oks ≡ 13 → n ≡ 13 → mask ≡ mask_below (is_failed oks) n → mask ≡ mask_of oks
all_bits oks mask n places all e =
    e ∙ ap (mask_below (is_failed oks)) all ∙ sym (mask_is 13 (mask_of oks) (is_failed oks) below each)
  where
    below : mask_of oks < 2 ^ 13
    below = subst (λ (k : ℕ). mask_of oks < 2 ^ k) places (mask_of_bound oks)

    each : (k : ℕ) → k < 13 → bit_of (mask_of oks) k ≡ is_failed oks k
    each k h =
        (rw (bit_of_lem oks k) (one_if_failed (get_or oks k true)))
        ∙ ap not (get_or_default oks k true false (omega (arith, places, h)))

-- the mask is 0 where no sensor failed, and nowhere else
none_failed : (ok : Bool) (rest : ℕ) → ok && eqb rest 0 ≡ eqb (cond ok 0 1 + 2 * rest) 0
none_failed true rest = by_test (eqb rest 0) refl
  where
    by_test : (b : Bool) → eqb rest 0 ≡ b → b ≡ eqb (0 + 2 * rest) 0
    by_test true e = rw (eq-eqb (0 + 2 * rest) 0 (omega (arith, eqb-true rest 0 e)))
    by_test false e = rw (ne_eqb (0 + 2 * rest) 0 (λ q. eqb-false rest 0 e (omega arith)))
none_failed false rest = rw (ne_eqb (1 + 2 * rest) 0 (λ q. omega arith))

all_is : (oks : List Bool) → all oks ≡ eqb (mask_of oks) 0
all_is [] = refl
all_is (ok ∷ oks) = rw (all_is oks) (none_failed ok (mask_of oks))

pub plausible_is : (r : Reading) → plausible r ≡ eqb (failed_mask r) 0
unfolding plausible failed_mask
plausible_is r = all_is (in_range r)
