-- Laws of lists alike in all but the on or off values: they have one length, and a list, what follows it and its first calls are alike where
-- these are.
use mathlib.Core.Path.{◌≡◌, refl, ap}
use mathlib.Core.List.{List, [], ◌∷◌, ◌++◌}
use Prim.Native.Nat.{ℕ, zero, suc}
use lib.ListN.{length, take}
use Rattle.rules.specs.declared.calls.Event.{Event}
use Rattle.rules.specs.Alike.{Alike, none, same, switched}

pub alike_itself : (es : List Event) → Alike es es
alike_itself [] = none
alike_itself (e ∷ es) = same e (alike_itself es)

pub alike_length : {a b : List Event} → Alike a b → length a ≡ length b
alike_length none = refl
alike_length (same e l) = ap suc (alike_length l)
alike_length (switched t x y l) = ap suc (alike_length l)

pub alike_append : {a b c d : List Event} → Alike a b → Alike c d → Alike (a ++ c) (b ++ d)
alike_append none more = more
alike_append (same e l) more = same e (alike_append l more)
alike_append (switched t x y l) more = switched t x y (alike_append l more)

pub alike_take : (n : ℕ) {a b : List Event} → Alike a b → Alike (take n a) (take n b)
alike_take zero l = none
alike_take (suc n) none = none
alike_take (suc n) (same e l) = same e (alike_take n l)
alike_take (suc n) (switched t x y l) = switched t x y (alike_take n l)
