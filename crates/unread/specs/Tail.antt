-- The end of a buffer moved to its front.
use Rattle.std.specs.Prelude.{ℕ, ◌-◌, cond, List, ◌++◌, ltb, length, take, drop}

-- the elements from one position up to another stand at the front, and all behind them is as it was
abbrev pub tail_first : (from to : ℕ) → List ℕ → List ℕ
tail_first from to bytes = take (to - from) (drop from bytes) ++ drop (to - from) bytes

-- the same of any positions: nothing is moved where the buffer ends before the second, or that stands before the first
abbrev pub tail_length : (from to size : ℕ) → ℕ
tail_length from to size = cond (ltb size to) 0 (to - from)

abbrev pub tail_moved : (from to : ℕ) → List ℕ → List ℕ
tail_moved from to bytes = cond (ltb (length bytes) to) bytes (tail_first from to bytes)
