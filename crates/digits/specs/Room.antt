-- What is written of a number into a buffer.
use Rattle.std.specs.Prelude.{ℕ, ◌+◌, cond, List, [], ltb}
use Rattle.rules.specs.Text.{decimal}

-- its digits from a position on; nothing where the buffer, of that size, has no room for the 20 digits of the longest number
abbrev pub decimal_at : (n at size : ℕ) → List ℕ
decimal_at n at size = cond (ltb size (at + 20)) [] (decimal n)
