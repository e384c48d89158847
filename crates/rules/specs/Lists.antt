-- Lists, as the rules use them; nothing here is about batteries. Their laws are in proofs/Lists.
use Rattle.std.specs.Prelude.{ℕ, zero, suc, ◌-◌, Bool, true, ◌&&◌, List, [], ◌∷◌, length, drop}

-- a list of n, from what stands at each place
abbrev pub tabulate : {A : Type 0} → ℕ → (ℕ → A) → List A
tabulate zero f = []
tabulate (suc n) f = f zero ∷ tabulate n (λ k. f (suc k))

-- whether every test of a list holds
abbrev pub all : List Bool → Bool
all [] = true
all (b ∷ bs) = b && all bs

-- what holds of each element
infixr 20 ◌and◌
pub data Each {A : Type 0} (P : A → Type 0) : List A → Type 0 where
  none : Each P []
  ◌and◌ : {x : A} {xs : List A} → P x → Each P xs → Each P (x ∷ xs)

-- the last n of a list
abbrev pub last_of : {A : Type 0} → ℕ → List A → List A
last_of n xs = drop (length xs - n) xs
