-- What is written where there is no room.
use Rattle.std.specs.Prelude.{ℕ, cond, List, [], ltb}

-- what is written of a text into a buffer of that size: nothing where it is smaller than what is asked for
abbrev pub fitted : (asked size : ℕ) → List ℕ → List ℕ
fitted asked size text = cond (ltb size asked) [] text
