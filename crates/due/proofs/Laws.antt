-- Where none is asked, none is due; and the mask of those below one of the eight has room for its bit.
use mathlib.Core.Path.{◌≡◌, ap, ◌∙◌}
use mathlib.Core.Bool.{Bool}
use mathlib.Core.List.{List}
use Prim.Native.Nat.{ℕ, ◌+◌, ◌*◌, ◌^◌, ◌%◌, ◌≤◌, ◌<◌}
use native.Mathlib.Nat.{pow-le-pow_right}
use native.Mathlib.Omega.{arith}
use mir.Syntax.{w8}
use mir.Val.{Fits}
use mir.Facts.{Fits-le, Fits-lit}
use Rattle.rules.specs.declared.units.Milliseconds.{Milliseconds}
use Rattle.rules.specs.Protections.{mask_below}
use Rattle.rules.proofs.Bits.{mask_is, mask_below_lem, bit_of_none}
use Rattle.due.specs.Due.{is_due, due_all}

pub due_none : (beyond asked : ℕ) (t : Milliseconds) (since : List Milliseconds) → asked ≡ 0 → 0 ≡ due_all beyond asked t since
unfolding due_all
due_none beyond asked t since e =
    mask_is 8 0 (is_due beyond asked t since) (omega arith) (λ n h. rw (e, bit_of_none n))

pub room : (test : ℕ → Bool) (mask n : ℕ) → n < 8 → mask ≡ mask_below test n → Fits w8 (mask + 1 * 2 ^ n % 256)
room test mask n h e =
    let at_most : n ≤ 7 = omega arith in
    let weight : 2 ^ n ≤ 2 ^ 7 = pow-le-pow_right {n = 2} (omega arith) at_most in
    Fits-le {n = 255} (omega (arith, weight, e, mask_below_lem test n)) (Fits-lit tt)

pub eight : (beyond asked : ℕ) (t : Milliseconds) (since : List Milliseconds) (mask n : ℕ) → mask ≡ mask_below (is_due beyond asked t since) n → n ≡ 8
    → mask ≡ due_all beyond asked t since
unfolding due_all
eight beyond asked t since mask n e all = e ∙ ap (mask_below (is_due beyond asked t since)) all
