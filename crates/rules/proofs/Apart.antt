-- No reading is both beyond and within, for any protection of any battery type; and which protections are liftable, as a mask.
use mathlib.Core.Path.{◌≡◌, refl, ◌∙◌}
use mathlib.Core.Bool.{Bool, true, false, not, cond}
use mathlib.Core.List.{map}
use Prim.Native.Nat.{ℕ, ◌+◌, ◌/◌, ◌%◌, ◌^◌, ◌<◌}
use native.Mathlib.Nat.{le-add_right}
use native.Mathlib.Omega.{arith}
use lib.Dec.{T, leb→le, le→leb, eqb}
use lib.IntN.{ℤ, pos, nat_abs}
use lib.Signed.{lt_z, le_z, lt_z_yes, le_z_yes, <ℤ-≤ℤ_trans, clash_ℤ, ≤ℤ_refl}
use lib.ListN.{get_or, get_or-map}
use mir.Facts.{and_yes}
use Rattle.rules.specs.declared.sensors.Reading.{Reading}
use Rattle.rules.specs.Quantities.{ma, dc, ◌<mA◌, ◌≤mA◌, ◌<dC◌, negated, charge_rating, discharge_rating}
use Rattle.rules.specs.Protections.{Protection, overvoltage, undervoltage, overtemperature, cold_charge, charge_overcurrent, short_circuit, discharge_overcurrent, imbalance, hottest, coldest, permitted_at, permitted, table, row_of}
use Rattle.rules.specs.Lists.{Each, none, ◌and◌}
use Rattle.rules.proofs.Lists.{at_index}
use Rattle.rules.proofs.Mask.{bit_of_lem}

-- ---- "Liftable: 1, 3, 6, 7 (as a mask with bit = number, hex CA)"
abbrev not_liftable : Protection → Bool
not_liftable p = not p.liftable

exchanged : (b : Bool) → ◌≡◌ {A = ℕ} (cond (not b) 0 1) (cond b 1 0)
exchanged true = refl
exchanged false = refl

-- `mask_of` has a 1 where a test fails, here that of not being liftable. From 8 on there is no protection, and the bit is 0.
pub liftable_bit : (battery protection : ℕ) → 0xCA / 2 ^ protection % 2 ≡ cond (row_of battery protection).liftable 1 0
unfolding row_of
liftable_bit battery protection =
    let same : get_or (map not_liftable (table battery)) protection true ≡ not_liftable (row_of battery protection) = get_or-map not_liftable (table battery) protection overvoltage in
    bit_of_lem (map not_liftable (table battery)) protection ∙ rw same (exchanged (row_of battery protection).liftable)

-- ---- a signed figure against two limits: beyond is past the one, and within stops at or short of the other
above : (beyond within figure : ℤ) → T (le_z within beyond) → T (lt_z beyond figure) → T (le_z figure within) → ⊥
above beyond within figure order b w =
    clash_ℤ {a = beyond} {b = within} (<ℤ-≤ℤ_trans (lt_z_yes {a = beyond} {b = figure} b) (le_z_yes {a = figure} {b = within} w)) (le_z_yes order)

below : (beyond within figure : ℤ) → T (le_z beyond within) → T (lt_z figure beyond) → T (le_z within figure) → ⊥
below beyond within figure order b w =
    clash_ℤ {a = figure} {b = within} (<ℤ-≤ℤ_trans (lt_z_yes {a = figure} {b = beyond} b) (le_z_yes {a = beyond} {b = within} order)) (le_z_yes w)

-- ---- the rows
abbrev Apart : Protection → Type 0
Apart p = (r : Reading) → T (p.beyond r) → T (p.within r) → ⊥

overvoltage_apart : Apart overvoltage
overvoltage_apart r b w = omega (arith, leb→le)

undervoltage_apart : Apart undervoltage
undervoltage_apart r b w = omega (arith, leb→le)

overtemperature_apart : Apart overtemperature
overtemperature_apart r = above (pos 710) (pos 600) (hottest r).0 tt

cold_charge_apart : Apart cold_charge
cold_charge_apart r b =
    below (pos 0) (pos 50) (coldest r).0 tt (and_yes (coldest r <dC dc (pos 0)) (ma (pos 500) <mA r.current) b).0

charge_overcurrent_apart : (battery : ℕ) → Apart (charge_overcurrent battery)
unfolding permitted
charge_overcurrent_apart battery r =
    let L = permitted_at (nat_abs (charge_rating battery).0) (coldest r).0 in
    above (pos (L + 2_000)) (pos L) r.current.0 (le→leb L (L + 2_000) (le-add_right L 2_000))

-- -1,100,000 ma is past -D for either D
past_rating : (b : Bool) → T (negated (ma (pos 1_100_000)) ≤mA negated (cond b (ma (pos 180_000)) (ma (pos 120_000))))
past_rating true = tt
past_rating false = tt

short_circuit_apart : (battery : ℕ) → Apart (short_circuit battery)
short_circuit_apart battery r = below (negated (ma (pos 1_100_000))).0 (negated (discharge_rating battery)).0 r.current.0 (past_rating (eqb battery 3))

discharge_overcurrent_apart : (battery : ℕ) → Apart (discharge_overcurrent battery)
discharge_overcurrent_apart battery r =
    let limit = (negated (discharge_rating battery)).0 in
    below limit limit r.current.0 (≤ℤ_refl limit).le

imbalance_apart : Apart imbalance
imbalance_apart r b w = omega (arith, leb→le)

rows : (battery : ℕ) → Each Apart (table battery)
rows battery =
    overvoltage_apart
    and undervoltage_apart
    and overtemperature_apart
    and cold_charge_apart
    and charge_overcurrent_apart battery
    and short_circuit_apart battery
    and discharge_overcurrent_apart battery
    and imbalance_apart
    and none

pub apart : (battery protection : ℕ) → protection < 8 → (r : Reading) → T ((row_of battery protection).beyond r) → T ((row_of battery protection).within r) → ⊥
unfolding row_of
apart battery protection h = at_index (rows battery) protection h overvoltage
