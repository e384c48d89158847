-- A table of rows against document 01's curve: one test that computes over the whole table. `Rows` has what it says of each row.
use Prim.Native.Nat.{ℕ, suc}
use mathlib.Core.Bool.{Bool, true, false, ◌&&◌}
use mathlib.Core.List.{List, [], ◌∷◌}
use lib.Dec.{eqb}
use lib.IntN.{ℤ, pos, negsuc}
use lib.ListN.{length}
use Rattle.rules.specs.Protections.{curve}

-- whether a row is a given figure
abbrev pub is_figure : ℕ → ℤ → Bool
is_figure n (pos m) = eqb m n
is_figure n (negsuc m) = false

-- whether each row is what a rule has for its place, counted from 0
abbrev pub follows : (ℕ → ℕ) → List ℤ → Bool
follows rule [] = true
follows rule (row ∷ rows) = is_figure (rule 0) row && follows (λ k. rule (suc k)) rows

-- whether a table has 250 rows, each of them the curve at its own place
abbrev pub is_curve : (rating : ℕ) → List ℤ → Bool
is_curve rating rows = eqb (length rows) 250 && follows (curve rating) rows
