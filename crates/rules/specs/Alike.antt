-- Document 01, "The contactor", its last paragraph: what demand 3 means by two lists alike in all but the on or off values.
use Rattle.std.specs.Prelude.{Bool, List, [], ◌∷◌}
use Rattle.rules.specs.declared.units.Milliseconds.{Milliseconds}
use Rattle.rules.specs.declared.calls.Event.{Event}
use Rattle.rules.specs.declared.calls.Event.TheVariants.{BattleOverride}

-- document 01: "the lists are of one length and their calls, taken in order, agree in kind and arguments, save the on or off value of an
-- override call"
pub data Alike : List Event → List Event → Type 0 where
  none : Alike [] []
  same : (e : Event) {a b : List Event} → Alike a b → Alike (e ∷ a) (e ∷ b)
  switched : (t : Milliseconds) (x y : Bool) {a b : List Event} → Alike a b → Alike (BattleOverride t x ∷ a) (BattleOverride t y ∷ b)
