-- The room that the last line needs.
use Rattle.std.specs.Prelude.{ℕ}

-- what is asked for before the last line is written: `end`, three numbers of 20 digits, and what stands between and after them
abbrev pub last_room : ℕ
last_room = 67
