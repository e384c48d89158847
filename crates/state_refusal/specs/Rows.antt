-- The rows of the table for a call that hang on the state and on the command count: 8 to 10.
use Rattle.std.specs.Prelude.{ℕ, List, [], ◌∷◌}
use Rattle.rules.specs.declared.states.State.{State}
use Rattle.rules.specs.declared.calls.Event.{Event}
use Rattle.rules.specs.Refusals.{Check, is_wrong_power, is_forbidden_request, is_forbidden_other}

abbrev pub state_checks : State → ℕ → Event → List Check
state_checks s commands e =
    record { refusal = 8; condition = is_wrong_power s e }
    ∷ record { refusal = 9; condition = is_forbidden_request s e }
    ∷ record { refusal = 10; condition = is_forbidden_other s commands e }
    ∷ []
