-- The pieces that the code writes, put together, are the last lines that the rules lay down.
use mathlib.Core.Path.{◌≡◌, ap, ◌∙◌}
use mathlib.Core.List.{List, [], ◌∷◌, ◌++◌, append_assoc}
use Prim.Native.Nat.{ℕ}
use Rattle.rules.specs.Text.{decimal, end_line, stop_line}

pub end_is : (x y z : ℕ)
    → (101 ∷ 110 ∷ 100 ∷ []) ++ (32 ∷ decimal x) ++ (32 ∷ decimal y) ++ (32 ∷ decimal z) ++ (10 ∷ []) ≡ end_line x y z
unfolding end_line
end_is x y z =
    ap (λ (rest : List ℕ). 101 ∷ 110 ∷ 100 ∷ 32 ∷ rest)
    (append_assoc (decimal x ++ (32 ∷ decimal y)) (32 ∷ decimal z) (10 ∷ []) ∙ append_assoc (decimal x) (32 ∷ decimal y) (32 ∷ (decimal z ++ 10 ∷ [])))

pub stop_is : (refusal position : ℕ)
    → (115 ∷ 116 ∷ 111 ∷ 112 ∷ []) ++ (32 ∷ decimal refusal) ++ (32 ∷ decimal position) ++ (10 ∷ []) ≡ stop_line refusal position
unfolding stop_line
stop_is refusal position =
    ap (λ (rest : List ℕ). 115 ∷ 116 ∷ 111 ∷ 112 ∷ 32 ∷ rest) (append_assoc (decimal refusal) (32 ∷ decimal position) (10 ∷ []))
