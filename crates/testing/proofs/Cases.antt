-- A table's cases are the first one, if it is there, and those of the rest.
use Prim.Native.Nat.{ℕ, zero, suc, ◌<◌, ◌≤◌}
use mathlib.Core.List.{List, [], ◌∷◌}
use mathlib.Core.Path.{◌≡◌, refl, ap}
use native.Mathlib.Omega.{arith}
use lib.ListN.{length, drop, length-drop}
use Rattle.std.specs.Prelude.{Option, None, Some}
use Rattle.std.specs.Option.{option_map_or}
use Rattle.testing.specs.Table.{case_at, case_bytes, first_cases, cases}
use Rattle.testing.proofs.Walking.{case_inside}

module _ (head : ℕ) where
  -- in a table of no byte there is no case
  nothing_there : (table : List ℕ) → length table ≤ 0 → case_at table 0 head ≡ None
  nothing_there table h = by_case (case_at table 0 head) refl
    where
      by_case : (o : Option (ℕ × ℕ)) → case_at table 0 head ≡ o → case_at table 0 head ≡ None
      by_case None e = e
      by_case (Some case) e = absurd (let inside = case_inside table 0 head e in omega (arith, inside.0, inside.1, inside.2))

  -- as many as there are bytes are all of them
  all_there : (n m : ℕ) (table : List ℕ) → length table ≤ n → length table ≤ m → first_cases n table head ≡ first_cases m table head
  all_there zero zero table a b = refl
  all_there zero (suc m) table a b = rw (nothing_there table a) refl
  all_there (suc n) zero table a b = rw (nothing_there table b) refl
  all_there (suc n) (suc m) table a b = by_case (all_there n m) (case_at table 0 head) refl
    where
      by_case : ((rest : List ℕ) → length rest ≤ n → length rest ≤ m → first_cases n rest head ≡ first_cases m rest head)
          → (o : Option (ℕ × ℕ)) → case_at table 0 head ≡ o
          → option_map_or (λ (case : ℕ × ℕ). case_bytes table case ∷ first_cases n (drop case.1 table) head) o []
          ≡ option_map_or (λ (case : ℕ × ℕ). case_bytes table case ∷ first_cases m (drop case.1 table) head) o []
      by_case more None e = refl
      by_case more (Some case) e =
          let inside = case_inside table 0 head e in
          ap (λ (rest : List (List ℕ × List ℕ)). case_bytes table case ∷ rest)
          (more (drop case.1 table) (simp length-drop (omega (arith, inside.0, inside.1, inside.2))) (simp length-drop (omega (arith, inside.0, inside.1, inside.2))))

module _ (table : List ℕ) (head : ℕ) where
  pub first_case : {start end : ℕ} → case_at table 0 head ≡ Some (start, end)
      → cases table head ≡ case_bytes table (start, end) ∷ cases (drop end table) head
  first_case {start} {end} e = by_size (length table) refl
    where
      inside : (0 < start) × (start ≤ end) × (end ≤ length table)
      inside = case_inside table 0 head e

      by_size : (n : ℕ) → n ≡ length table → first_cases n table head ≡ case_bytes table (start, end) ∷ cases (drop end table) head
      by_size zero k = absurd (omega (arith, k, inside.0, inside.1, inside.2))
      by_size (suc n) k =
          rw e
          (ap (λ (rest : List (List ℕ × List ℕ)). case_bytes table (start, end) ∷ rest)
          (all_there head n (length (drop end table)) (drop end table) (simp length-drop (omega (arith, k, inside.0, inside.1, inside.2))) (omega arith)))
