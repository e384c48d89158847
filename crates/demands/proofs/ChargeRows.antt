-- Document 02, S-4, "The charge limit as printed rows", sentence by sentence: of the code, over what the contract of `permitted` allows, and of
-- any table that its rows' proofs take, since no proof can name a constant. The rule is document 01's L, in rules:Protections.
use Prim.Native.Nat.{ℕ, ◌<◌}
use mathlib.Core.Path.{◌≡◌, refl, ◌∙◌}
use mathlib.Core.List.{List}
use borrow.Author.Tests.{lt-ltb, ne_eqb}
use lib.Dec.{T}
use lib.IntN.{ℤ, pos}
use lib.ListN.{length, get_or}
use Rattle.rules.specs.declared.units.DeciCelsius.{DeciCelsius}
use Rattle.rules.specs.declared.units.Milliamperes.{Milliamperes}
use Rattle.rules.specs.Quantities.{ma, dc}
use Rattle.rules.specs.Protections.{curve, permitted}
use Rattle.curve.proofs.Curve.{is_curve}
use Rattle.curve.proofs.Rows.{row_is, rows_250}
use Rattle.permitted.proofs.permitted.Reads as permitted-reads

-- what the code may give back for a battery type and a coldest temperature
abbrev pub Permits : ℕ → DeciCelsius → Milliamperes → Type 0
Permits battery coldest l = permitted-reads.Post tt (battery, (coldest, tt)) l (battery, (coldest, tt))

pub some_current : (battery : ℕ) (coldest : DeciCelsius) → Permits battery coldest (permitted battery coldest)
some_current battery coldest = refl

-- "The abuse laboratory's procedure prints permitted charge current in rows of a tenth of a degree, 250 rows for each rating, and its
-- engineers check our code against the page.": a table of any rating has as many
pub rows_for_each_rating : (rating : ℕ) (rows : List ℤ) → T (is_curve rating rows) → length rows ≡ 250
rows_for_each_rating = rows_250

-- "Replace the formula by that table, for both ratings.": at every type and every temperature the code gives what the formula gave
pub formula_replaced : (battery : ℕ) (coldest : DeciCelsius) (l : Milliamperes) → Permits battery coldest l → l ≡ permitted battery coldest
formula_replaced battery coldest l given = given

-- "Each row equals document 01's formula,": of the code, for either rating
pub each_row_of_60 : (battery tenths : ℕ) (l : Milliamperes) → (battery ≡ 3 → ⊥) → tenths < 250 → Permits battery (dc (pos tenths)) l
    → l ≡ ma (pos (curve 60_000 tenths))
unfolding permitted
each_row_of_60 battery tenths l other below given = given ∙ rw (ne_eqb battery 3 other, lt-ltb tenths 250 below)

pub each_row_of_90 : (tenths : ℕ) (l : Milliamperes) → tenths < 250 → Permits 3 (dc (pos tenths)) l → l ≡ ma (pos (curve 90_000 tenths))
unfolding permitted
each_row_of_90 tenths l below given = given ∙ rw (lt-ltb tenths 250 below)

-- "shown by one argument over all 500 rows.": for any rating and any table, by induction over the rows
pub one_argument : (rating : ℕ) (rows : List ℤ) → T (is_curve rating rows) → (c : ℕ) → c < 250 → get_or rows c (pos 0) ≡ pos (curve rating c)
one_argument = row_is
