-- A measurement that passes the test of calm is within the limits of all eight protections.
use mathlib.Core.Bool.{Bool, true, false, cond, ◌||◌}
use Prim.Native.Nat.{ℕ, ◌+◌, ◌*◌, ◌≤◌, ◌<◌, zero-le}
use native.Mathlib.Nat.{mul-le-mul}
use native.Mathlib.Omega.{arith}
use lib.Dec.{T, ltb, eqb, leb→le, le→leb}
use lib.IntN.{ℤ, pos, negsuc, nat_abs}
use lib.Signed.{le_z}
use mir.Facts.{and_yes}
use Rattle.rules.specs.declared.units.DeciCelsius.{DeciCelsius}
use Rattle.rules.specs.declared.units.Milliamperes.{Milliamperes}
use Rattle.rules.specs.declared.sensors.Reading.{Reading}
use Rattle.rules.specs.Lists.{Each, none, ◌and◌}
use Rattle.rules.specs.Quantities.{mv, ma, dc, ◌≤mV◌, ◌≤mA◌, ◌≤dC◌, negated, charge_rating, discharge_rating}
use Rattle.rules.specs.Protections.{Protection, overvoltage, highest, lowest, hottest, coldest, spread, curve, permitted_at, permitted, table, row_of}
use Rattle.rules.proofs.Lists.{at_index}
use Rattle.rules.proofs.Order.{at_most_trans}
use Rattle.calm.specs.Calm.{permitted_from, surely_permitted, is_calm}

-- ---- what is permitted at a temperature is permitted where it is warmer, and for a higher rating

-- figures of 60,000 ma, at a temperature: at most what the curve has there, and at most the rating
abbrev Step : (tenths most : ℕ) → Type 0
Step tenths most = (most * 90_000 ≤ 60_000 * ((tenths + 50) * (tenths + 50))) × (most ≤ 60_000)

warmer : (tenths most rating c : ℕ) → Step tenths most → 60_000 ≤ rating → tenths ≤ c → most ≤ permitted_at rating (pos c)
warmer tenths most rating c step h k = by_place (ltb c 250)
  where
    product : 60_000 * ((tenths + 50) * (tenths + 50)) ≤ rating * ((c + 50) * (c + 50))
    product =
        let wider : tenths + 50 ≤ c + 50 = omega arith in
        mul-le-mul h (mul-le-mul wider wider)

    by_place : (b : Bool) → most ≤ cond b (curve rating c) rating
    by_place true = omega (arith, step.0, product)
    by_place false = omega (arith, step.1)

rating_from : (b : Bool) → 60_000 ≤ nat_abs (cond b (ma (pos 90_000)) (ma (pos 60_000))).0
rating_from true = omega arith
rating_from false = omega arith

module _ (battery : ℕ) (coldest : DeciCelsius) (i : Milliamperes) where
  from : (tenths most : ℕ) → Step tenths most → T (permitted_from coldest i tenths most) → T (i ≤mA permitted battery coldest)
  unfolding permitted
  from tenths most step h = go coldest.0 parts.0
    where
      parts : T (dc (pos tenths) ≤dC coldest) × T (i ≤mA ma (pos most))
      parts = and_yes (dc (pos tenths) ≤dC coldest) (i ≤mA ma (pos most)) h

      go : (c : ℤ) → T (le_z (pos tenths) c) → T (le_z i.0 (pos (permitted_at (nat_abs (charge_rating battery).0) c)))
      go (pos c) k =
          let rating = nat_abs (charge_rating battery).0 in
          at_most_trans i.0 (pos most) (pos (permitted_at rating (pos c))) parts.1
          (le→leb most (permitted_at rating (pos c)) (warmer tenths most rating c step (rating_from (eqb battery 3)) (leb→le tenths c k)))
      go (negsuc c) k = absurd k

  no_charge : T (i ≤mA ma (pos 0)) → T (i ≤mA permitted battery coldest)
  unfolding permitted
  no_charge h =
      let most = permitted_at (nat_abs (charge_rating battery).0) coldest.0 in
      at_most_trans i.0 (pos 0) (pos most) h (le→leb 0 most zero-le)

  one_of : {P : Type 0} (a b : Bool) → T (a || b) → (T a → P) → (T b → P) → P
  one_of true b h f g = f tt
  one_of false b h f g = g h

  pub surely : T (surely_permitted coldest i) → T (i ≤mA permitted battery coldest)
  unfolding surely_permitted
  surely h =
      one_of (i ≤mA ma (pos 0)) _ h no_charge
      (λ h. one_of _ _ h (from _ _ (omega arith, omega arith))
      (λ h. one_of _ _ h (from _ _ (omega arith, omega arith))
      (λ h. one_of _ _ h (from _ _ (omega arith, omega arith))
      (λ h. one_of _ _ h (from _ _ (omega arith, omega arith))
      (from _ _ (omega arith, omega arith))))))

-- ---- the parts of the test

pub record Calm (battery : ℕ) (r : Reading) : Type 0 where
  pub high : T (highest r ≤mV mv 3_500)
  pub low : T (mv 2_800 ≤mV lowest r)
  pub hot : T (hottest r ≤dC dc (pos 600))
  pub cold : T (dc (pos 50) ≤dC coldest r)
  pub charge : T (r.current ≤mA permitted battery (coldest r))
  pub draw : T (negated (discharge_rating battery) ≤mA r.current)
  pub apart : T (spread r ≤mV mv 300)

module _ (battery : ℕ) (r : Reading) where
  pub calm_parts : T (is_calm battery r) → Calm battery r
  unfolding is_calm
  calm_parts h =
      let a = and_yes (highest r ≤mV mv 3_500) _ h in
      let b = and_yes (mv 2_800 ≤mV lowest r) _ a.1 in
      let c = and_yes (hottest r ≤dC dc (pos 600)) _ b.1 in
      let d = and_yes (dc (pos 50) ≤dC coldest r) _ c.1 in
      let e = and_yes (surely_permitted (coldest r) r.current) _ d.1 in
      let f = and_yes (negated (discharge_rating battery) ≤mA r.current) (spread r ≤mV mv 300) e.1 in
      record {
        high = a.0;
        low = b.0;
        hot = c.0;
        cold = d.0;
        charge = surely battery (coldest r) r.current e.0;
        draw = f.0;
        apart = f.1;
      }

  pub calm_within : Calm battery r → (n : ℕ) → n < 8 → T ((row_of battery n).within r)
  unfolding row_of
  calm_within c n h = at_index rows n h overvoltage
    where
      rows : Each (λ (p : Protection). T (p.within r)) (table battery)
      rows = c.high and c.low and c.hot and c.cold and c.charge and c.draw and c.draw and c.apart and none
