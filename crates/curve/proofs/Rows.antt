-- What the test of a table says of each row.
use Prim.Native.Nat.{ℕ, zero, suc, ◌<◌}
use mathlib.Core.Path.{◌≡◌, ap}
use mathlib.Core.List.{List, [], ◌∷◌}
use native.Mathlib.Nat.{le_of_suc-le-suc, not-suc-le-zero}
use lib.Dec.{T, eqb, eqb→eq}
use lib.IntN.{ℤ, pos, negsuc}
use lib.ListN.{length, get_or}
use mir.Facts.{and_yes}
use Rattle.rules.specs.Protections.{curve}
use Rattle.curve.proofs.Curve.{is_figure, follows, is_curve}

figure_is : (n : ℕ) (row : ℤ) → T (is_figure n row) → row ≡ pos n
figure_is n (pos m) h = ap pos (eqb→eq m n h)
figure_is n (negsuc m) h = absurd h

at_place : (rule : ℕ → ℕ) (rows : List ℤ) → T (follows rule rows) → (k : ℕ) → k < length rows → get_or rows k (pos 0) ≡ pos (rule k)
at_place rule [] h k below = absurd (not-suc-le-zero below)
at_place rule (row ∷ rows) h zero below = figure_is (rule 0) row (and_yes (is_figure (rule 0) row) (follows (λ k. rule (suc k)) rows) h).0
at_place rule (row ∷ rows) h (suc k) below =
    at_place (λ k. rule (suc k)) rows (and_yes (is_figure (rule 0) row) (follows (λ k. rule (suc k)) rows) h).1 k (le_of_suc-le-suc below)

pub rows_250 : (rating : ℕ) (rows : List ℤ) → T (is_curve rating rows) → length rows ≡ 250
rows_250 rating rows h = eqb→eq (length rows) 250 (and_yes (eqb (length rows) 250) (follows (curve rating) rows) h).0

pub row_is : (rating : ℕ) (rows : List ℤ) → T (is_curve rating rows) → (c : ℕ) → c < 250 → get_or rows c (pos 0) ≡ pos (curve rating c)
row_is rating rows h c below =
    at_place (curve rating) rows (and_yes (eqb (length rows) 250) (follows (curve rating) rows) h).1 c (rw (rows_250 rating rows h) below)
