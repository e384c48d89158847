-- The rows of the table for a state request in a state.
use Rattle.std.specs.Prelude.{not, List, [], ◌∷◌}
use Rattle.rules.specs.declared.states.State.{State}
use Rattle.rules.specs.declared.calls.Request.{Request}
use Rattle.rules.specs.States.{is_powered, request_allowed}
use Rattle.rules.specs.Refusals.{Check}

abbrev pub request_checks : State → Request → List Check
request_checks s q =
    record { refusal = 8; condition = not (is_powered s) }
    ∷ record { refusal = 9; condition = not (request_allowed s q) }
    ∷ []
