-- The contactor's test as the code makes it: one test of the mask of those tripped.
use mathlib.Core.Path.{◌≡◌, refl}
use mathlib.Core.Bool.{Bool, true, not, ◌&&◌}
use Prim.Native.Nat.{ℕ, ◌<◌}
use lib.Bits.{bit_and}
use lib.Dec.{eqb}
use Rattle.rules.specs.Protections.{row_of, mask_below}
use Rattle.rules.proofs.Bits.{all_excused}
use Rattle.step.specs.Close.{lifted}

module _ (battery : ℕ) where
  -- the mask of those that hold the contactor open, by the setting of override
  abbrev pub held : Bool → ℕ
  held on = mask_below (λ protection. not (on && (row_of battery protection).liftable)) 8

  pub held_on : (on : Bool) → on ≡ true → 53 ≡ held on
  unfolding row_of
  held_on on e = rw e refl

  pub lifted_is : (on : Bool) (tripped m : ℕ) → tripped < 256 → m ≡ held on → eqb (bit_and tripped m) 0 ≡ lifted battery on tripped
  lifted_is on tripped m h e = all_excused 8 tripped m (λ protection. on && (row_of battery protection).liftable) h e
