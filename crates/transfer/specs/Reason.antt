-- The words of an error, which std ends in the number that the system has for it.
use Rattle.std.specs.Prelude.{ℕ, ◌≡◌, ◌⊎◌, List, Some, None, take, codes}
use Rattle.std.specs.Str.{IsUtf8}
use Rattle.std.specs.Str.Pattern.{RFindsText}

-- The words without the number: what stands before the last " (os error ", or all of it where that stands nowhere in it or it is no text.
abbrev pub IsWithoutNumber : (text words : List ℕ) → Type 0
IsWithoutNumber text words =
    ((i : ℕ) × (j : ℕ) × RFindsText (codes " (os error ") text (Some (i, j)) × (words ≡ take i text))
    ⊎ (RFindsText (codes " (os error ") text None × (words ≡ text))
    ⊎ ((¬ IsUtf8 text) × (words ≡ text))
