-- With room for a digit more the digits of a number become those of the next, and else they stay.
use mathlib.Core.Path.{◌≡◌, sym, ap, ◌∙◌}
use mathlib.Core.Bool.{Bool, true, cond}
use mathlib.Core.List.{List}
use Prim.Native.Nat.{ℕ, ◌+◌, ◌-◌, ◌^◌, ◌<◌, ◌≤◌}
use native.Mathlib.Omega.{arith}
use borrow.Author.Tests.{lt-ltb}
use lib.Dec.{ltb}
use lib.ListN.{length, replicate, length-append, length-replicate}
use Rattle.rules.specs.Text.{decimal}
use Rattle.rules.proofs.Decimals.{decimal_length}
use Rattle.counter.specs.Counting.{digits_in, carried, grown, increased, size_after, CountsUp}
use Rattle.counter.proofs.Successor.{successor}

module _ (size : ℕ) (digits : List ℕ) where
  -- what `increase` promises
  abbrev Increased : ℕ → List ℕ → Type 0
  Increased n after = (n ≡ size_after size digits) × ((after ≡ increased size digits) × CountsUp size digits n after)

  pub room : size < length digits → (n : ℕ) → n ≡ size + grown size digits → (after : List ℕ) → after ≡ carried size digits → Increased n after
  room space n count after is = (
    count ∙ ap (λ (b : Bool). cond b (size + grown size digits) size) (sym there),
    (is ∙ ap (λ (b : Bool). cond b (carried size digits) digits) (sym there), counts),
  )
    where
      there : ltb size (length digits) ≡ true
      there = lt-ltb size (length digits) space

      counts : CountsUp size digits n after
      counts number e f _ =
          let next = successor (length digits) number (omega (arith, f, space)) in
          let grows = ap (λ (k : ℕ). grown k digits) f ∙ ap (grown (length (decimal number))) e in (
            is ∙ ap (λ (k : ℕ). carried k digits) f ∙ ap (carried (length (decimal number))) e ∙ next.0,
            omega (arith, count, f, grows, next.1),
          )

-- ---- a number's digits with zeros behind them

module _ (n : ℕ) (small : n < 10 ^ 20) where
  pub size_at_most : length (decimal n) ≤ 20
  size_at_most = decimal_length 19 n small

  pub length_in : length (digits_in 21 n) ≡ 21
  length_in =
      let left = 21 - length (decimal n) in
      omega (arith, length-append (decimal n) (replicate left 48), length-replicate {A = ℕ} left 48, size_at_most)
