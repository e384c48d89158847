-- Calls that are made anew until one is not broken off.
use Rattle.std.specs.Prelude.{◌≡◌, ℕ, Result, Ok, IfOk}

-- a count is what some call answered, in a state with each number that the first state has and that every call keeps
abbrev pub Called : {F E : Type 0} → (F → Result ℕ E → F → Type 0) → F → Result ℕ E → Type 0
Called {F} {E} step first answer =
    (kept : F → ℕ) → ((a : F) (r : Result ℕ E) (b : F) → step a r b → kept b ≡ kept a)
    → IfOk answer (λ n. (a : F) × (b : F) × (kept a ≡ kept first) × step a (Ok n) b)
