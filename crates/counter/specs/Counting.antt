-- A number as its decimal digits at the start of a buffer, and what counting up makes of them.
use Rattle.std.specs.Prelude.{ℕ, zero, suc, ◌+◌, ◌-◌, ◌<◌, ◌≡◌, cond, List, ◌++◌, ltb, length, get_or, set, replicate}
use Rattle.rules.specs.Text.{decimal}
use Rattle.counter.specs.declared.Counter.{Counter}

-- digits with zeros behind them, up to that width
abbrev pub padded : ℕ → List ℕ → List ℕ
padded width digits = digits ++ replicate (width - length digits) 48

abbrev pub digits_in : ℕ → ℕ → List ℕ
digits_in width n = padded width (decimal n)

abbrev pub counter_of : ℕ → Counter
counter_of n = record { digits = digits_in 21 n; size = length (decimal n) }

-- 1 added to the digit before a position, or, where that is a 9, to the digit before it; a 1 and zeros where there is none before it
abbrev pub carried : ℕ → List ℕ → List ℕ
carried zero digits = set digits 0 49
carried (suc i) digits = cond (ltb (get_or digits i 0) 57) (set digits i (get_or digits i 0 + 1)) (carried i (set digits i 48))

-- how many digits are more by it
abbrev pub grown : ℕ → List ℕ → ℕ
grown zero digits = 1
grown (suc i) digits = cond (ltb (get_or digits i 0) 57) 0 (grown i (set digits i 48))

-- nothing where there is no room for one more
abbrev pub increased : ℕ → List ℕ → List ℕ
increased size digits = cond (ltb size (length digits)) (carried size digits) digits

abbrev pub size_after : ℕ → List ℕ → ℕ
size_after size digits = cond (ltb size (length digits)) (size + grown size digits) size

-- the digits of a number, where there is room for one more, become those of the next
abbrev pub CountsUp : ℕ → List ℕ → ℕ → List ℕ → Type 0
CountsUp size digits size_next next =
    (n : ℕ) → digits ≡ digits_in (length digits) n → size ≡ length (decimal n) → size < length digits
    → (next ≡ digits_in (length digits) (n + 1)) × (size_next ≡ length (decimal (n + 1)))
