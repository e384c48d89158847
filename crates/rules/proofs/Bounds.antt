-- What a frame's condition leaves open lies between two readings: the mildest that meets it, with the lowest cells and the highest
-- current, and the most severe, with the highest cells and the lowest current.
use mathlib.Core.Path.{◌≡◌, refl, sym, subst, ◌∙◌}
use mathlib.Core.Bool.{Bool, true, false, not, ◌&&◌, beq}
use mathlib.Core.List.Memᴰ
use mathlib.Core.List.{◌∷◌, map}
use Prim.Native.Nat.{ℕ, ◌≤◌}
use native.Mathlib.Nat.{le_refl}
use native.Mathlib.Omega.{arith}
use lib.Dec.{T, leb, ltb, leb→le, nltb→le, not_T, T_not}
use lib.IntN.{ℤ, pos, neg_ℤ}
use lib.Signed.{le_z, ≤ℤ_refl}
use mir.Facts.{and_yes}
use Rattle.rules.specs.declared.sensors.Reading.{Reading}
use Rattle.rules.specs.Quantities.{mv, ma, dc}
use Rattle.rules.specs.Test.{cell_in_range, current_in_range, temperature_in_range, in_range, plausible}
use Rattle.rules.specs.Protections.{other_cells, other_temperatures, highest}
use Rattle.rules.specs.Examples.{Condition, some_cell, highest_cell, current_of, anything_plausible, implausible, Reads}
use Rattle.rules.specs.Lists.{none, ◌and◌}
use Rattle.rules.proofs.Lists.{at_index, of_member, each_of, all_front}
use Rattle.rules.proofs.Extremes.{highest_is}
use Rattle.rules.proofs.Milder.{MilderReading}

-- ---- a plausible reading
module _ (r : Reading) (ok : T (plausible r)) where
  highest_in_range : (500 ≤ (highest r).0) × ((highest r).0 ≤ 5_000)
  unfolding plausible
  highest_in_range =
      let cells = all_front (map cell_in_range (r.cell0 ∷ other_cells r)) (current_in_range r.current ∷ map temperature_in_range (r.temperature0 ∷ other_temperatures r)) ok in
      let range = of_member (each_of cell_in_range (r.cell0 ∷ other_cells r) cells) (highest_is r).present in
      let both = and_yes (leb 500 (highest r).0) (leb (highest r).0 5_000) range in
      (leb→le 500 (highest r).0 both.0, leb→le (highest r).0 5_000 both.1)

  current_in_range_lem : T (le_z (neg_ℤ (pos 2_000_000)) r.current.0) × T (le_z r.current.0 (pos 2_000_000))
  unfolding plausible
  current_in_range_lem =
      and_yes (le_z (neg_ℤ (pos 2_000_000)) r.current.0) (le_z r.current.0 (pos 2_000_000))
      (at_index (each_of (λ b. b) (in_range r) ok) 8 (omega arith) true)

-- ---- what a condition says of the highest cell (mv) and the current (ma)
pub record Bounds : Type 0 where
  pub is_plausible : Bool
  pub low_cell : ℕ
  pub high_cell : ℕ
  pub low_current : ℤ
  pub high_current : ℤ

abbrev pub bounds : Condition → Bounds
bounds (some_cell v) =
    record { is_plausible = true; low_cell = v; high_cell = 5_000; low_current = neg_ℤ (pos 2_000_000); high_current = pos 2_000_000 }
bounds (highest_cell v) =
    record { is_plausible = true; low_cell = v; high_cell = v; low_current = neg_ℤ (pos 2_000_000); high_current = pos 2_000_000 }
bounds (current_of i) = record { is_plausible = true; low_cell = 500; high_cell = 5_000; low_current = i; high_current = i }
bounds anything_plausible =
    record { is_plausible = true; low_cell = 500; high_cell = 5_000; low_current = neg_ℤ (pos 2_000_000); high_current = pos 2_000_000 }
bounds implausible = record { is_plausible = false; low_cell = 0; high_cell = 0; low_current = pos 0; high_current = pos 0 }

record Between (b : Bounds) (r : Reading) : Type 0 where
  alike : plausible r ≡ b.is_plausible
  low_cell : T (plausible r) → b.low_cell ≤ (highest r).0
  high_cell : T (plausible r) → (highest r).0 ≤ b.high_cell
  low_current : T (plausible r) → T (le_z b.low_current r.current.0)
  high_current : T (plausible r) → T (le_z r.current.0 b.high_current)

is_true : (b : Bool) → T b → b ≡ true
is_true true h = refl
is_true false h = absurd h

is_false : (b : Bool) → T (not b) → b ≡ false
is_false true h = absurd h
is_false false h = refl

between : (c : Condition) (r : Reading) → Reads c r → Between (bounds c) r
between (some_cell v) r h = record {
  alike = is_true (plausible r) h.0;
  low_cell = λ ok. nltb→le (highest r).0 v (not_T (ltb (highest r).0 v) ((highest_is r).none_past h.1));
  high_cell = λ ok. (highest_in_range r ok).1;
  low_current = λ ok. (current_in_range_lem r ok).0;
  high_current = λ ok. (current_in_range_lem r ok).1;
}
between (highest_cell v) r h = record {
  alike = is_true (plausible r) h.0;
  low_cell = λ ok. rw h.1 (le_refl v);
  high_cell = λ ok. rw h.1 (le_refl v);
  low_current = λ ok. (current_in_range_lem r ok).0;
  high_current = λ ok. (current_in_range_lem r ok).1;
}
between (current_of i) r h = record {
  alike = is_true (plausible r) h.0;
  low_cell = λ ok. (highest_in_range r ok).0;
  high_cell = λ ok. (highest_in_range r ok).1;
  low_current = λ ok. rw h.1 (≤ℤ_refl i).le;
  high_current = λ ok. rw h.1 (≤ℤ_refl i).le;
}
between anything_plausible r h = record {
  alike = is_true (plausible r) h;
  low_cell = λ ok. (highest_in_range r ok).0;
  high_cell = λ ok. (highest_in_range r ok).1;
  low_current = λ ok. (current_in_range_lem r ok).0;
  high_current = λ ok. (current_in_range_lem r ok).1;
}
between implausible r h = record {
  alike = is_false (plausible r) h;
  low_cell = λ ok. absurd (T_not (plausible r) h ok);
  high_cell = λ ok. absurd (T_not (plausible r) h ok);
  low_current = λ ok. absurd (T_not (plausible r) h ok);
  high_current = λ ok. absurd (T_not (plausible r) h ok);
}

-- ---- the two readings at the ends
abbrev even : ℕ → ℤ → Reading
even cell current = record {
  cell0 = mv cell;
  cell1 = mv cell;
  cell2 = mv cell;
  cell3 = mv cell;
  cell4 = mv cell;
  cell5 = mv cell;
  cell6 = mv cell;
  cell7 = mv cell;
  current = ma current;
  temperature0 = dc (pos 0);
  temperature1 = dc (pos 0);
  temperature2 = dc (pos 0);
  temperature3 = dc (pos 0);
}

abbrev pub mildest : Condition → Reading
mildest c = even (bounds c).low_cell (bounds c).high_current

abbrev pub severest : Condition → Reading
severest c = even (bounds c).high_cell (bounds c).low_current

highest_even : (cell : ℕ) (current : ℤ) → highest (even cell current) ≡ mv cell
highest_even cell current =
    of_member {P = λ v. v ≡ mv cell} (refl and refl and refl and refl and refl and refl and refl and refl and none)
    (highest_is (even cell current)).present

-- that they are plausible where they should be computes, for a condition with its figures
abbrev alike_at : Condition → Reading → Bool
alike_at c r = beq (plausible r) (bounds c).is_plausible

abbrev pub at_ends : Condition → Bool
at_ends c = alike_at c (mildest c) && alike_at c (severest c)

same : (a b : Bool) → T (beq a b) → a ≡ b
same true true h = refl
same true false h = absurd h
same false true h = absurd h
same false false h = refl

module _ (c : Condition) (ends : T (at_ends c)) where
  mildest_alike : plausible (mildest c) ≡ (bounds c).is_plausible
  mildest_alike = same (plausible (mildest c)) (bounds c).is_plausible (and_yes (alike_at c (mildest c)) (alike_at c (severest c)) ends).0

  severest_alike : plausible (severest c) ≡ (bounds c).is_plausible
  severest_alike = same (plausible (severest c)) (bounds c).is_plausible (and_yes (alike_at c (mildest c)) (alike_at c (severest c)) ends).1

  pub above_mildest : (r : Reading) → Reads c r → MilderReading (mildest c) r
  above_mildest r h =
      let x = between c r h in
      let alike : plausible (mildest c) ≡ plausible r = mildest_alike ∙ sym x.alike in
      record {
        alike = alike;
        cells = λ ok. rw (highest_even (bounds c).low_cell (bounds c).high_current) (x.low_cell (rw alike at ok));
        current = λ ok. x.high_current (rw alike at ok);
      }

  pub below_severest : (r : Reading) → Reads c r → MilderReading r (severest c)
  below_severest r h =
      let x = between c r h in
      record {
        alike = x.alike ∙ sym severest_alike;
        cells = λ ok. rw (highest_even (bounds c).high_cell (bounds c).low_current) (x.high_cell ok);
        current = x.low_current;
      }

-- a condition can be met: by its mildest reading
pub mildest_meets : (c : Condition) → T (at_ends c) → Reads c (mildest c)
mildest_meets c ends = by c (mildest_alike c ends)
  where
    by : (c : Condition) → plausible (mildest c) ≡ (bounds c).is_plausible → Reads c (mildest c)
    by (some_cell v) e = (subst T (sym e) tt, Memᴰ.head refl)
    by (highest_cell v) e = (subst T (sym e) tt, highest_even v (pos 2_000_000))
    by (current_of i) e = (subst T (sym e) tt, refl)
    by anything_plausible e = subst T (sym e) tt
    by implausible e = rw e tt
