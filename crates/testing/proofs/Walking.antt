-- A table's case by its two tests, and where a case that is there stands.
use Prim.Native.Nat.{ℕ, ◌+◌, ◌<◌, ◌≤◌}
use mathlib.Core.Bool.{Bool, true, false, cond, ◌||◌}
use mathlib.Core.List.{List}
use mathlib.Core.Path.{◌≡◌, refl, ap}
use native.Mathlib.Omega.{arith}
use borrow.Author.Tests.{lt-ltb, le-ltb, ltb-false}
use lib.Dec.{ltb}
use lib.ListN.{length, get_or}
use Rattle.testing.specs.Table.{case_end, case_at}
use Rattle.std.specs.Prelude.{Option, None, Some}

module _ (table : List ℕ) (at head : ℕ) where
  pub no_head : head < 4 → None ≡ case_at table at head
  unfolding case_at
  no_head h = rw (lt-ltb head 4 h)

  pub cut_off : 4 ≤ head → length table < case_end table at head → None ≡ case_at table at head
  unfolding case_at
  cut_off h k = rw (le-ltb head 4 h, lt-ltb (length table) (case_end table at head) k)

  pub stands : 4 ≤ head → (size : ℕ) → size ≡ get_or table (at + 3) 0 → at + head + size ≤ length table
      → Some (at + head, at + head + size) ≡ case_at table at head
  unfolding case_at
  stands h size is k =
      rw (le-ltb head 4 h, le-ltb (length table) (case_end table at head) (rw (← is) k))
      (ap (λ (n : ℕ). Some (at + head, at + head + n)) is)

  -- a case that is there is not empty, and lies within the table
  pub case_inside : {start end : ℕ} → case_at table at head ≡ Some (start, end) → (at < start) × (start ≤ end) × (end ≤ length table)
  unfolding case_at
  case_inside {start} {end} e = by_tests (ltb head 4) (ltb (length table) (case_end table at head)) refl refl e
    where
      by_tests : (small cut : Bool) → ltb head 4 ≡ small → ltb (length table) (case_end table at head) ≡ cut
          → cond {A = Option (ℕ × ℕ)} (small || cut) None (Some (at + head, case_end table at head)) ≡ Some (start, end)
          → (at < start) × (start ≤ end) × (end ≤ length table)
      by_tests true cut s c e = absurd (let z : ◌≡◌ {A = ℕ} 0 1 = cc in omega arith)
      by_tests false true s c e = absurd (let z : ◌≡◌ {A = ℕ} 0 1 = cc in omega arith)
      by_tests false false s c e =
          let both : ◌≡◌ {A = ℕ × ℕ} (at + head, case_end table at head) (start, end) = cc in
          let first : at + head ≡ start = ap (λ (p : ℕ × ℕ). p.0) both in
          let last : case_end table at head ≡ end = ap (λ (p : ℕ × ℕ). p.1) both in
          let h = ltb-false head 4 s in
          let k = ltb-false (length table) (case_end table at head) c in
          (omega arith, omega arith, omega arith)
