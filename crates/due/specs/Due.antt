-- The protections that are due, by masks: what the code finds of each by its bit, and all of them together.
use Rattle.std.specs.Prelude.{ℕ, Bool, cond, ◌&&◌, List, get_or}
use Rattle.rules.specs.declared.units.Milliseconds.{Milliseconds}
use Rattle.rules.specs.Quantities.{ms, ◌≤ms◌, elapsed}
use Rattle.rules.specs.Protections.{row_of, mask_below}
use Rattle.rules.specs.Shown.{bit_of}

-- whether the span of a protection has lasted its hold, if it is beyond, or its release time, where that is asked. Neither depends on the
-- battery type: those of type 1 stand for all.
abbrev pub due_at : Bool → Bool → ℕ → Milliseconds → Milliseconds → Bool
due_at beyond asked protection t since =
    asked && (cond beyond (row_of 1 protection).hold (row_of 1 protection).release ≤ms elapsed since t)

abbrev pub is_due : ℕ → ℕ → Milliseconds → List Milliseconds → ℕ → Bool
is_due beyond asked t since protection =
    due_at (bit_of beyond protection) (bit_of asked protection) protection t (get_or since protection (ms 0))

unfoldable pub due_all : ℕ → ℕ → Milliseconds → List Milliseconds → ℕ
due_all beyond asked t since = mask_below (is_due beyond asked t since) 8
