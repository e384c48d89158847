-- Decimal digits as the code finds them: how many there are, and each from the last on.
use mathlib.Core.Path.{◌≡◌, refl, sym, ap, ◌∙◌}
use mathlib.Core.Bool.{Bool, true, false}
use mathlib.Core.List.{List, [], ◌∷◌, ◌++◌, append-nil, append_assoc}
use Prim.Native.Nat.{ℕ, zero, suc, ◌+◌, ◌-◌, ◌/◌, ◌%◌, ◌<◌, ◌≤◌}
use native.Mathlib.Nat.{not-suc-le-zero}
use native.Mathlib.Omega.{arith}
use borrow.Author.Tests.{ltb-true, ltb-false, lt-ltb}
use lib.Dec.{ltb}
use lib.ListN.{length, take, set, get_or, length-append}
use lib.Seq.{take-suc, set_at, length-take-le, take-length}
use Rattle.rules.specs.Text.{digit, decimal}
use Rattle.rules.proofs.Decimals.{decimal_small, decimal_large}

pub digit_small : (d : ℕ) → d < 10 → digit d ≡ 48 + d
digit_small d h = rw (lt-ltb d 10 h) refl

-- ---- how many

-- the digits still to count: none of 0
abbrev pub left : ℕ → ℕ
left zero = 0
left (suc n) = length (decimal (suc n))

pub left_is : (n : ℕ) → 0 < n → left n ≡ length (decimal n)
left_is zero h = absurd (not-suc-le-zero h)
left_is (suc n) h = refl

pub counted : (n : ℕ) → 1 + left (n / 10) ≡ length (decimal n)
counted n = go (ltb n 10) refl
  where
    go : (b : Bool) → ltb n 10 ≡ b → 1 + left (n / 10) ≡ length (decimal n)
    go true e =
        let small = ltb-true n 10 e in
        let none : n / 10 ≡ 0 = omega (arith, small) in
        rw (none, decimal_small n small) refl
    go false e =
        let large = ltb-false n 10 e in
        let some : left (n / 10) ≡ length (decimal (n / 10)) = left_is (n / 10) (omega (arith, large)) in
        rw (decimal_large n large) (omega (arith, some, length-append (decimal (n / 10)) (digit (n % 10) ∷ [])))

pub counted_all : (k rest n : ℕ) → (0 < rest → ⊥) → k + left rest ≡ length (decimal n) → k ≡ length (decimal n)
counted_all k zero n h e = omega (arith, e)
counted_all k (suc rest) n h e = absurd (h (omega arith))

-- ---- the last so many

abbrev pub low_digits : ℕ → ℕ → List ℕ
low_digits zero n = []
low_digits (suc k) n = low_digits k (n / 10) ++ digit (n % 10) ∷ []

low_all : (k n : ℕ) → k ≡ length (decimal n) → low_digits k n ≡ decimal n
low_all zero n e = absurd (omega (arith, e, counted n))
low_all (suc k) n e = go (ltb n 10) refl (low_all k (n / 10))
  where
    go : (b : Bool) → ltb n 10 ≡ b → (k ≡ length (decimal (n / 10)) → low_digits k (n / 10) ≡ decimal (n / 10)) → low_digits k (n / 10) ++ digit (n % 10) ∷ [] ≡ decimal n
    go true b rest =
        let small = ltb-true n 10 b in
        let one : length (decimal n) ≡ 1 = ap length (decimal_small n small) in
        let last : k ≡ 0 = omega (arith, e, one) in
        let same : n % 10 ≡ n = omega (arith, small) in
        rw (last, same, decimal_small n small) refl
    go false b rest =
        let large = ltb-false n 10 b in
        let longer : length (decimal n) ≡ length (decimal (n / 10)) + 1 = ap length (decimal_large n large) ∙ length-append (decimal (n / 10)) (digit (n % 10) ∷ []) in
        rw (decimal_large n large) (ap (λ (front : List ℕ). front ++ digit (n % 10) ∷ []) (rest (omega (arith, e, longer))))

-- ---- written from the last on

module _ (n : ℕ) (before : List ℕ) where
  -- with i digits still to write, those of `rest`
  pub record Spelled (i rest : ℕ) (out : List ℕ) : Type 0 where
    pub done : List ℕ
    pub digits : low_digits (length before) n ≡ low_digits i rest ++ done
    pub contents : out ≡ take i before ++ done

  pub spelled_none : Spelled (length before) n before
  spelled_none = record {
    done = [];
    digits = sym (append-nil (low_digits (length before) n));
    contents = sym (append-nil before) ∙ ap (λ (l : List ℕ). l ++ []) (sym (take-length before));
  }

  one_more : (i rest : ℕ) (out : List ℕ) → suc i ≤ length before → Spelled (suc i) rest out → Spelled i (rest / 10) (set out i (48 + rest % 10))
  one_more i rest out room s = record {
    done = digit (rest % 10) ∷ s.done;
    digits = s.digits ∙ append_assoc (low_digits i (rest / 10)) (digit (rest % 10) ∷ []) s.done;
    contents =
        ap (λ (o : List ℕ). set o i (48 + rest % 10)) (s.contents ∙ ap (λ (f : List ℕ). f ++ s.done) (take-suc before i 0 (omega arith)) ∙ append_assoc (take i before) (get_or before i 0 ∷ []) s.done)
        ∙ set_at (take i before) (get_or before i 0) s.done (48 + rest % 10) i (length-take-le i before (omega arith))
        ∙ ap (λ (d : ℕ). take i before ++ d ∷ s.done) (sym (digit_small (rest % 10) (omega arith)));
  }

  pub spelled_more : (i rest : ℕ) (out : List ℕ) → 0 < i → i ≤ length before → Spelled i rest out → Spelled (i - 1) (rest / 10) (set out (i - 1) (48 + rest % 10))
  spelled_more zero rest out h room s = absurd (not-suc-le-zero h)
  spelled_more (suc i) rest out h room s = let is : suc i - 1 ≡ i = omega arith in rw is (one_more i rest out room s)

  pub spelled_all : (i rest : ℕ) (out : List ℕ) → length before ≡ length (decimal n) → i ≤ 0 → Spelled i rest out → out ≡ decimal n
  spelled_all zero rest out size h s = s.contents ∙ sym s.digits ∙ low_all (length before) n size
  spelled_all (suc i) rest out size h s = absurd (omega (arith, h))
