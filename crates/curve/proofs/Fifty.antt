-- A row as the code reads it, by the page's rating past the last one, or from the fifty that it stands in.
use Prim.Native.Nat.{ℕ, ◌+◌, ◌*◌, ◌/◌, ◌%◌, ◌≤◌, ◌<◌}
use mathlib.Core.Path.{◌≡◌, refl, ap, ◌∙◌}
use mathlib.Core.Bool.{Bool, true, false, cond}
use mathlib.Core.List.{List}
use native.Mathlib.Nat.{div-add-mod', mod-lt, mul-le-mul, div-le_of_le-mul}
use native.Mathlib.Omega.{arith}
use borrow.Author.Tests.{lt-ltb, le-ltb, ltb-true, ltb-false}
use Rattle.std.proofs.lemmas.List.{get_or_default}
use lib.Dec.{T, ltb}
use lib.IntN.{ℤ, pos}
use lib.ListN.{length, get_or, get_or-eq_default}
use mir.Syntax.{w32}
use mir.Val.{to_z, of_z}
use mir.Facts.{to_z_pos}
use Rattle.rules.specs.declared.units.Milliamperes.{Milliamperes}
use Rattle.rules.specs.Quantities.{ma}
use Rattle.rules.specs.Protections.{curve, permitted_at}
use Rattle.curve.proofs.Curve.{is_curve}
use Rattle.curve.proofs.Rows.{row_is, rows_250}

-- for a rating of at most 90,000 no row is above that
pub curve_small : (rating c : ℕ) → rating ≤ 90_000 → c < 250 → curve rating c ≤ 90_000
curve_small rating c small below = div-le_of_le-mul 90_000 (mul-le-mul small (mul-le-mul near near))
  where
    near : c + 50 ≤ 300
    near = omega arith

row_at : (rating : ℕ) (rows : List ℤ) → T (is_curve rating rows) → (c : ℕ) → get_or rows c (pos rating) ≡ pos (permitted_at rating (pos c))
row_at rating rows h c = by_place (ltb c 250) refl
  where
    long : length rows ≡ 250
    long = rows_250 rating rows h

    by_place : (b : Bool) → ltb c 250 ≡ b → get_or rows c (pos rating) ≡ pos (cond b (curve rating c) rating)
    by_place true e =
        let below : c < 250 = ltb-true c 250 e in
        get_or_default rows c (pos rating) (pos 0) (rw long below) ∙ row_is rating rows h c below
    by_place false e = get_or-eq_default rows (pos rating) (rw long (ltb-false c 250 e))

-- what the code reads at any tenth of a degree
pub row_of_page : (rating : ℕ) (rows : List ℤ) (c : ℕ) (l : Milliamperes) → l ≡ ma (get_or rows c (pos rating)) → T (is_curve rating rows)
    → l ≡ ma (pos (permitted_at rating (pos c)))
row_of_page rating rows c l l-is h = l-is ∙ ap ma (row_at rating rows h c)

row_read : (rating : ℕ) (rows : List ℤ) → T (is_curve rating rows) → rating ≤ 90_000 → (c : ℕ) → c < 250
    → ◌≡◌ {A = Milliamperes} (ma (to_z w32 (of_z w32 (get_or rows c (pos 0))))) (ma (pos (permitted_at rating (pos c))))
row_read rating rows h small c below =
    rw (row_is rating rows h c below, lt-ltb c 250 below, to_z_pos w32 {n = curve rating c} (omega (arith, curve_small rating c small below)))

-- Kept: docs/PORT.md names row_in_fifty and in_no_fifty. The same where the place is counted from the first row of its fifty.
pub row_in_fifty : (rating k : ℕ) → rating ≤ 90_000 → k < 5 → (place : ℕ) (rows : List ℤ) → T (is_curve rating rows)
    → (c : ℕ) → c / 50 ≡ k → k * 50 + c % 50 ≡ place
    → ◌≡◌ {A = Milliamperes} (ma (to_z w32 (of_z w32 (get_or rows place (pos 0))))) (ma (pos (permitted_at rating (pos c))))
row_in_fifty rating k small few place rows h c at counted =
    let whole : c / 50 * 50 + c % 50 ≡ c = div-add-mod' c 50 in
    let inside : c % 50 < 50 = mod-lt c (omega arith) in
    let here : place ≡ c = omega (arith, at, counted, whole) in
    rw here (row_read rating rows h small c (omega (arith, at, few, whole, inside)))

-- ---- past the last row

past_last : (rating c : ℕ) → 5 ≤ c / 50 → ma (pos rating) ≡ ma (pos (permitted_at rating (pos c)))
past_last rating c past =
    let whole : c / 50 * 50 + c % 50 ≡ c = div-add-mod' c 50 in
    rw (le-ltb c 250 (omega (arith, past, whole)))

above : (k n : ℕ) → k ≤ n → (n ≡ k → ⊥) → k + 1 ≤ n
above k n from not = omega (arith, from, not)

pub in_no_fifty : (rating c : ℕ) → (c / 50 ≡ 0 → ⊥) → (c / 50 ≡ 1 → ⊥) → (c / 50 ≡ 2 → ⊥) → (c / 50 ≡ 3 → ⊥) → (c / 50 ≡ 4 → ⊥)
    → ma (pos rating) ≡ ma (pos (permitted_at rating (pos c)))
in_no_fifty rating c not0 not1 not2 not3 not4 =
    let from2 : 2 ≤ c / 50 = above 1 (c / 50) (above 0 (c / 50) (omega arith) not0) not1 in
    past_last rating c (above 4 (c / 50) (above 3 (c / 50) (above 2 (c / 50) from2 not2) not3) not4)
