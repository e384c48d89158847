-- The permitted current on either side of 0 °C, and its bound.
use Prim.Native.Nat.{ℕ, ◌≤◌, ◌<◌}
use mathlib.Core.Path.{◌≡◌, refl}
use mathlib.Core.Bool.{Bool, true, false, cond}
use native.Mathlib.Omega.{arith}
use borrow.Author.Tests.{ltb-true}
use lib.Dec.{ltb, eqb}
use lib.IntN.{ℤ, pos, negsuc, nat_abs}
use lib.Signed.{mag}
use Rattle.std.specs.Int.{FitsUnsignedBits}
use Rattle.rules.specs.declared.units.DeciCelsius.{DeciCelsius}
use Rattle.rules.specs.declared.units.Milliamperes.{Milliamperes}
use Rattle.rules.specs.Quantities.{ma, charge_rating}
use Rattle.rules.specs.Protections.{curve, permitted_at, permitted}
use Rattle.curve.proofs.Fifty.{curve_small}

pub below_zero : (rating : ℕ) (c : ℤ) → mag c < 32_768 → (FitsUnsignedBits 64 c → ⊥) → 0 ≡ permitted_at rating c
below_zero rating (pos n) small not = absurd (not (omega (arith, small)))
below_zero rating (negsuc n) small not = refl

pub from_zero : (rating : ℕ) (c : ℤ) (l : Milliamperes) → FitsUnsignedBits 64 c → l ≡ ma (pos (permitted_at rating (pos (nat_abs c))))
    → l ≡ ma (pos (permitted_at rating c))
from_zero rating (pos n) l fits l-is = l-is
from_zero rating (negsuc n) l fits l-is = absurd fits

-- ---- no rating, and no row, is above 90,000

rating_small : (b : Bool) → nat_abs (cond b (ma (pos 90_000)) (ma (pos 60_000))).0 ≤ 90_000
rating_small true = omega arith
rating_small false = omega arith

at_small : (rating : ℕ) (c : ℤ) → rating ≤ 90_000 → permitted_at rating c ≤ 90_000
at_small rating (negsuc c) small = omega arith
at_small rating (pos c) small = by_place (ltb c 250) refl
  where
    by_place : (b : Bool) → ltb c 250 ≡ b → cond b (curve rating c) rating ≤ 90_000
    by_place true e = curve_small rating c small (ltb-true c 250 e)
    by_place false e = small

pub permitted_small : (battery : ℕ) (coldest : DeciCelsius) → mag (permitted battery coldest).0 ≤ 90_000
unfolding permitted
permitted_small battery coldest = at_small (nat_abs (charge_rating battery).0) coldest.0 (rating_small (eqb battery 3))
