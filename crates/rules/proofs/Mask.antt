-- The mask of the failed sensors: its bits, in document 01's order ("bits 0 to 7 the cells in order, 8 the current, 9 to 12 the
-- temperatures"), and that it has no more than 13.
use mathlib.Core.Path.{◌≡◌, refl, subst, ◌∙◌}
use mathlib.Core.Logic.{◌↔◌}
use mathlib.Core.Bool.{Bool, true, false, cond}
use mathlib.Core.List.{List, [], ◌∷◌, ◌++◌, map}
use Prim.Native.Nat.{ℕ, zero, suc, ◌+◌, ◌*◌, ◌/◌, ◌%◌, ◌^◌, ◌<◌}
use native.Mathlib.Nat.{zero-div, pow-succ', div-div-eq-div-mul}
use native.Mathlib.Omega.{arith}
use lib.Dec.{T}
use lib.IntN.{pos}
use lib.ListN.{length, get_or, get_or-append, get_or-map}
use lib.Seq.{get_or-append-add}
use Rattle.rules.specs.declared.sensors.Reading.{Reading}
use Rattle.rules.specs.Quantities.{mv, dc}
use Rattle.rules.specs.Test.{cell_in_range, current_in_range, temperature_in_range, in_range, mask_of, failed_mask}
use Rattle.rules.specs.Protections.{other_cells, other_temperatures}

-- ---- any list of tests
low_bit : (ok : Bool) → cond ok 0 1 < 2
low_bit true = omega arith
low_bit false = omega arith

-- bit k of the mask is 1 where the test at k failed; past the list's end it is 0
pub bit_of_lem : (oks : List Bool) (k : ℕ) → mask_of oks / 2 ^ k % 2 ≡ cond (get_or oks k true) 0 1
bit_of_lem [] k = rw (zero-div (2 ^ k))
bit_of_lem (ok ∷ oks) zero = omega (arith, low_bit ok)
bit_of_lem (ok ∷ oks) (suc k) =
    let rest : (cond ok 0 1 + 2 * mask_of oks) / 2 ≡ mask_of oks = omega (arith, low_bit ok) in
    rw (pow-succ', ← div-div-eq-div-mul, rest) (bit_of_lem oks k)

pub mask_below_lem : (oks : List Bool) → mask_of oks < 2 ^ length oks
mask_below_lem [] = omega arith
mask_below_lem (ok ∷ oks) = omega (arith, low_bit ok, mask_below_lem oks, pow-succ' 2 (length oks))

-- ---- the 13 sensors of a reading
one_if_failed : (ok : Bool) → ◌≡◌ {A = ℕ} (cond ok 0 1) 1 ↔ (ok ≡ false)
one_if_failed true = (λ e. absurd (omega (arith, e)), λ e. absurd (subst T e tt))
one_if_failed false = (λ e. refl, λ e. refl)

module _ (r : Reading) where
  -- for each sensor k; from 13 on there is none, and the bit is 0
  pub bit_is : (k : ℕ) → (failed_mask r / 2 ^ k % 2 ≡ 1) ↔ (get_or (in_range r) k true ≡ false)
  unfolding failed_mask
  bit_is k = rw (bit_of_lem (in_range r) k) (one_if_failed (get_or (in_range r) k true))

  -- the same by name; a 500 mv cell and a temperature of 0, past the lists' ends, are in range
  pub cell_bit : (k : ℕ) → k < 8 → (failed_mask r / 2 ^ k % 2 ≡ 1) ↔ (cell_in_range (get_or (r.cell0 ∷ other_cells r) k (mv 500)) ≡ false)
  cell_bit k h = rw in_order_lem at (bit_is k)
    where
      others : List Bool
      others = current_in_range r.current ∷ map temperature_in_range (r.temperature0 ∷ other_temperatures r)

      in_order_lem : get_or (in_range r) k true ≡ cell_in_range (get_or (r.cell0 ∷ other_cells r) k (mv 500))
      in_order_lem = get_or-append (map cell_in_range (r.cell0 ∷ other_cells r)) others true k h ∙ get_or-map cell_in_range (r.cell0 ∷ other_cells r) k (mv 500)

  pub current_bit : (failed_mask r / 2 ^ 8 % 2 ≡ 1) ↔ (current_in_range r.current ≡ false)
  current_bit = bit_is 8

  pub temperature_bit : (k : ℕ)
      → (failed_mask r / 2 ^ (9 + k) % 2 ≡ 1) ↔ (temperature_in_range (get_or (r.temperature0 ∷ other_temperatures r) k (dc (pos 0))) ≡ false)
  temperature_bit k = rw in_order_lem at (bit_is (9 + k))
    where
      others : List Bool
      others = map cell_in_range (r.cell0 ∷ other_cells r) ++ current_in_range r.current ∷ []

      in_order_lem : get_or (in_range r) (9 + k) true ≡ temperature_in_range (get_or (r.temperature0 ∷ other_temperatures r) k (dc (pos 0)))
      in_order_lem =
          get_or-append-add others (map temperature_in_range (r.temperature0 ∷ other_temperatures r)) k true
          ∙ get_or-map temperature_in_range (r.temperature0 ∷ other_temperatures r) k (dc (pos 0))

  pub mask_13_bits : failed_mask r < 8_192
  unfolding failed_mask
  mask_13_bits = mask_below_lem (in_range r)
