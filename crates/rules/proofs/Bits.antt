-- Masks and their bits, over any width and any number. A mask is known by its bits, and `&`, `|` and `!` are bit by bit what they are of one
-- bit.
use mathlib.Core.Path.{◌≡◌, refl, sym, ap, ap₂, ◌∙◌}
use mathlib.Core.Logic.{◌↔◌}
use mathlib.Core.Bool.{Bool, true, false, not, cond, ◌&&◌, ◌||◌, true≢false}
use Prim.Native.Nat.{ℕ, zero, suc, ◌+◌, ◌-◌, ◌*◌, ◌/◌, ◌%◌, ◌^◌, ◌<◌, min, max}
use native.Mathlib.Nat.{zero-div, pow-succ', div-div-eq-div-mul, sub-zero}
use native.Mathlib.Omega.{arith}
use lib.Bits.{bit_and, bit_or, and_step, or_step, and_shr, or_shr, and_le_l, and_le_r, or_add_and}
use borrow.Author.Tests.{eqb-true, eq-eqb}
use lib.Dec.{T, eqb}
use lib.Pow.{pow_pos}
use Rattle.rules.specs.Lists.{tabulate, all}
use Rattle.rules.specs.Protections.{mask_below}
use Rattle.rules.specs.Shown.{bit_of}
use Rattle.rules.proofs.Bools.{is_true, same_test}
use Rattle.rules.proofs.Lists.{all_places, tabulate_ext}

-- ---- a mask from its bits

-- the bit of a number in a mask, by its weight
abbrev weigh : Bool → ℕ → ℕ
weigh b weight = cond b weight 0

doubled : (b : Bool) (weight : ℕ) → weigh b (2 * weight) ≡ 2 * weigh b weight
doubled true weight = refl
doubled false weight = refl

low_bit : (b : Bool) → weigh b 1 < 2
low_bit true = omega arith
low_bit false = omega arith

-- the lowest bit apart, the others one place lower
lowest_apart : (test : ℕ → Bool) (k : ℕ) → mask_below test (suc k) ≡ weigh (test 0) 1 + 2 * mask_below (λ n. test (suc n)) k
lowest_apart test zero = omega arith
lowest_apart test (suc k) = rw (lowest_apart test k, pow-succ' 2 k, doubled (test (suc k)) (2 ^ k)) (omega arith)

pub mask_below_lem : (test : ℕ → Bool) (k : ℕ) → mask_below test k < 2 ^ k
mask_below_lem test zero = omega arith
mask_below_lem test (suc k) = omega (arith, lowest_apart test k, low_bit (test 0), mask_below_lem (λ n. test (suc n)) k, pow-succ' 2 k)

pub mask_same : (k : ℕ) (f g : ℕ → Bool) → ((n : ℕ) → n < k → f n ≡ g n) → mask_below f k ≡ mask_below g k
mask_same zero f g h = refl
mask_same (suc k) f g h = rw (mask_same k f g (λ n below. h n (omega (arith, below))), h k (omega arith)) refl

-- bit n + 1 of a mask is bit n of its half
half : (mask n : ℕ) → mask / 2 ^ suc n ≡ mask / 2 / 2 ^ n
half mask n = rw (pow-succ', ← div-div-eq-div-mul)

digit : (b : Bool) → eqb (weigh b 1) 1 ≡ b
digit true = refl
digit false = refl

pub bit_of_mask : (k : ℕ) (test : ℕ → Bool) (n : ℕ) → n < k → bit_of (mask_below test k) n ≡ test n
bit_of_mask zero test n h = absurd (omega arith)
bit_of_mask (suc k) test zero h =
    let low : mask_below test (suc k) / 1 % 2 ≡ weigh (test 0) 1 = omega (arith, lowest_apart test k, low_bit (test 0)) in
    rw low (digit (test 0))
bit_of_mask (suc k) test (suc n) h =
    let rest : mask_below test (suc k) / 2 ≡ mask_below (λ m. test (suc m)) k = omega (arith, lowest_apart test k, low_bit (test 0)) in
    rw (half (mask_below test (suc k)) n, rest) (bit_of_mask k (λ m. test (suc m)) n (omega arith))

digit_back : (d : ℕ) → d < 2 → weigh (eqb d 1) 1 ≡ d
digit_back zero h = refl
digit_back (suc zero) h = refl
digit_back (suc (suc d)) h = absurd (omega arith)

-- a mask is that of its bits
pub mask_of_bits : (k mask : ℕ) → mask < 2 ^ k → mask_below (bit_of mask) k ≡ mask
mask_of_bits zero mask h = omega arith
mask_of_bits (suc k) mask h =
    let rest : mask_below (λ n. bit_of mask (suc n)) k ≡ mask_below (bit_of (mask / 2)) k = mask_same k _ _ (λ n l. rw (half mask n)) in
    let again : mask_below (bit_of (mask / 2)) k ≡ mask / 2 = mask_of_bits k (mask / 2) (omega (arith, pow-succ' 2 k)) in
    let low : mask / 1 % 2 < 2 = omega arith in
    lowest_apart (bit_of mask) k ∙ (rw (rest, again, digit_back (mask / 1 % 2) low) (omega arith))

-- so a mask with those bits is that mask
pub mask_is : (k mask : ℕ) (test : ℕ → Bool) → mask < 2 ^ k → ((n : ℕ) → n < k → bit_of mask n ≡ test n) → mask ≡ mask_below test k
mask_is k mask test h e = sym (mask_of_bits k mask h) ∙ mask_same k (bit_of mask) test e

pub same_mask : (k a b : ℕ) → a < 2 ^ k → b < 2 ^ k → ((n : ℕ) → n < k → bit_of a n ≡ bit_of b n) → a ≡ b
same_mask k a b ha hb e = mask_is k a (bit_of b) ha e ∙ mask_of_bits k b hb

-- ---- and, or, not

digit_and : (x y : ℕ) → x < 2 → y < 2 → eqb (min x y) 1 ≡ eqb x 1 && eqb y 1
digit_and zero zero h l = refl
digit_and zero (suc zero) h l = refl
digit_and (suc zero) zero h l = refl
digit_and (suc zero) (suc zero) h l = refl
digit_and (suc (suc x)) y h l = absurd (omega arith)
digit_and zero (suc (suc y)) h l = absurd (omega arith)
digit_and (suc zero) (suc (suc y)) h l = absurd (omega arith)

digit_or : (x y : ℕ) → x < 2 → y < 2 → eqb (max x y) 1 ≡ eqb x 1 || eqb y 1
digit_or zero zero h l = refl
digit_or zero (suc zero) h l = refl
digit_or (suc zero) zero h l = refl
digit_or (suc zero) (suc zero) h l = refl
digit_or (suc (suc x)) y h l = absurd (omega arith)
digit_or zero (suc (suc y)) h l = absurd (omega arith)
digit_or (suc zero) (suc (suc y)) h l = absurd (omega arith)

pub bit_and_lem : (a b n : ℕ) → bit_of (bit_and a b) n ≡ bit_of a n && bit_of b n
bit_and_lem a b n =
    let x = a / 2 ^ n in
    let y = b / 2 ^ n in
    let low : bit_and x y % 2 ≡ min (x % 2) (y % 2) = rw (and_step x y) (omega arith) in
    rw (and_shr a b n, low) (digit_and (x % 2) (y % 2) (omega arith) (omega arith))

pub bit_or_lem : (a b n : ℕ) → bit_of (bit_or a b) n ≡ bit_of a n || bit_of b n
bit_or_lem a b n =
    let x = a / 2 ^ n in
    let y = b / 2 ^ n in
    let low : bit_or x y % 2 ≡ max (x % 2) (y % 2) = rw (or_step x y) (omega arith) in
    rw (or_shr a b n, low) (digit_or (x % 2) (y % 2) (omega arith) (omega arith))

digit_not : (d : ℕ) → d < 2 → eqb (1 - d) 1 ≡ not (eqb d 1)
digit_not zero h = refl
digit_not (suc zero) h = refl
digit_not (suc (suc d)) h = absurd (omega arith)

-- what `!` leaves of a number, by its half and its lowest bit, q and r
inverted : (p q r : ℕ) → 2 * q + r < 2 * p → r < 2 → 2 * p - 1 - (2 * q + r) ≡ 2 * (p - 1 - q) + (1 - r)
inverted p q r h l = omega arith

parted : (a : ℕ) → a ≡ 2 * (a / 2) + a / 1 % 2
parted a = omega arith

not_parted : (k a : ℕ) → a < 2 ^ suc k → 2 ^ suc k - 1 - a ≡ 2 * (2 ^ k - 1 - a / 2) + (1 - a / 1 % 2)
not_parted k a h =
    ap₂ (λ (x y : ℕ). x - 1 - y) (pow-succ' 2 k) (parted a)
    ∙ inverted (2 ^ k) (a / 2) (a / 1 % 2) (rw (← parted a, ← pow-succ' 2 k) h) (omega arith)

half_of : (q r : ℕ) → r < 2 → (2 * q + r) / 2 ≡ q
half_of q r l = omega arith

lowest_of : (q r : ℕ) → r < 2 → (2 * q + r) / 1 % 2 ≡ r
lowest_of q r l = omega arith

-- what `!` gives at width k
pub bit_not : (k a n : ℕ) → a < 2 ^ k → n < k → bit_of (2 ^ k - 1 - a) n ≡ not (bit_of a n)
bit_not zero a n h l = absurd (omega arith)
bit_not (suc k) a zero h l = rw (not_parted k a h, lowest_of (2 ^ k - 1 - a / 2) (1 - a / 1 % 2) (omega arith)) (digit_not (a / 1 % 2) (omega arith))
bit_not (suc k) a (suc n) h l =
    rw (half (2 ^ suc k - 1 - a) n, half a n, not_parted k a h, half_of (2 ^ k - 1 - a / 2) (1 - a / 1 % 2) (omega arith))
    (bit_not k (a / 2) n (omega (arith, pow-succ' 2 k)) (omega arith))

-- ---- none and all

pub bit_of_none : (n : ℕ) → bit_of 0 n ≡ false
bit_of_none n = rw (zero-div (2 ^ n))

pub bit_of_all : (k n : ℕ) → n < k → bit_of (2 ^ k - 1) n ≡ true
bit_of_all k n h = (rw sub-zero at (bit_not k 0 n (pow_pos k) h)) ∙ (rw (bit_of_none n))

-- a mask without a bit is 0
pub none_is : (k a : ℕ) → a < 2 ^ k → ((n : ℕ) → n < k → bit_of a n ≡ false) → a ≡ 0
none_is k a h e = same_mask k a 0 h (pow_pos k) (λ n l. e n l ∙ sym (bit_of_none n))

-- what a test of two masks at once tells of each
pub none_of_or : (a b : ℕ) → bit_or a b ≡ 0 → (a ≡ 0) × (b ≡ 0)
none_of_or a b e = omega (arith, or_add_and a b, and_le_l a b, and_le_r a b)

-- ---- tests of every bit, as one test of a mask

off : (b : Bool) → T (not b) ↔ (b ≡ false)
off true = (λ h. absurd h, λ e. absurd (true≢false e))
off false = (λ h. refl, λ e. tt)

pub all_clear : (k a : ℕ) → a < 2 ^ k → eqb a 0 ≡ all (tabulate k (λ n. not (bit_of a n)))
all_clear k a h = same_test (eqb a 0) (all (tabulate k (λ n. not (bit_of a n)))) (to, from) (all_places k (λ n. not (bit_of a n)))
  where
    to : T (eqb a 0) → (n : ℕ) → n < k → T (not (bit_of a n))
    to t n l = (off (bit_of a n)).1 (ap (λ (m : ℕ). bit_of m n) (eqb-true a 0 ((is_true (eqb a 0)).0 t)) ∙ bit_of_none n)

    from : ((n : ℕ) → n < k → T (not (bit_of a n))) → T (eqb a 0)
    from f = (is_true (eqb a 0)).1 (eq-eqb a 0 (none_is k a h (λ n l. (off (bit_of a n)).0 (f n l))))

unless_is : (x y : Bool) → not (x && not y) ≡ not x || y
unless_is true true = refl
unless_is true false = refl
unless_is false y = refl

-- whether each bit of a mask is off or excused
pub all_excused : (k a m : ℕ) (excused : ℕ → Bool) → a < 2 ^ k → m ≡ mask_below (λ n. not (excused n)) k
    → eqb (bit_and a m) 0 ≡ all (tabulate k (λ n. not (bit_of a n) || excused n))
all_excused k a m excused h e =
    all_clear k (bit_and a m) (omega (arith, h, and_le_l a m)) ∙ ap all (tabulate_ext k _ _ same)
  where
    same : (n : ℕ) → n < k → not (bit_of (bit_and a m) n) ≡ not (bit_of a n) || excused n
    same n l = (rw (bit_and_lem a m n, e, bit_of_mask k (λ i. not (excused i)) n l)) ∙ unless_is (bit_of a n) (excused n)
