-- A table of cases, each a head of fixed length, whose fourth byte is the length of what follows it.
use Rattle.std.specs.Prelude.{ℕ, zero, suc, ◌+◌, cond, ◌||◌, List, [], ◌∷◌, ltb, length, get_or, take, drop, Option, None, Some}
use Rattle.std.specs.Option.{option_map_or}

abbrev pub case_end : List ℕ → ℕ → ℕ → ℕ
case_end table at head = at + head + get_or table (at + 3) 0

-- the case at a position, if it is there whole
unfoldable pub case_at : List ℕ → ℕ → ℕ → Option (ℕ × ℕ)
case_at table at head =
    cond (ltb head 4 || ltb (length table) (case_end table at head)) None (Some (at + head, case_end table at head))

-- of a case at a table's start, the bytes of its head and what follows them
abbrev pub case_bytes : List ℕ → ℕ × ℕ → List ℕ × List ℕ
case_bytes table case = (take case.0 (take case.1 table), drop case.0 (take case.1 table))

-- the first n cases of a table, as far as they are there whole
abbrev pub first_cases : ℕ → List ℕ → ℕ → List (List ℕ × List ℕ)
first_cases zero table head = []
first_cases (suc n) table head =
    option_map_or (λ case. case_bytes table case ∷ first_cases n (drop case.1 table) head) (case_at table 0 head) []

-- all of them: there are not more than bytes
abbrev pub cases : List ℕ → ℕ → List (List ℕ × List ℕ)
cases table head = first_cases (length table) table head
