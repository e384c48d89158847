-- Document 02, S-3, "Maintenance straight to Dormant", sentence by sentence, of the code: over what the contracts of `apply` and `contactor`
-- allow, on every record, and over every run. The statements are in rules:StateMap, that of a list's contactor in rules:Claims.
use mathlib.Core.List.{List}
use Prim.Native.Nat.{ℕ}
use Rattle.rules.specs.declared.states.Contactor.{Contactor}
use Rattle.rules.specs.declared.calls.Event.{Event}
use Rattle.rules.specs.declared.battery.Record.{Record}
use Rattle.rules.specs.Claims.{type_or1, ClosedByRule}
use Rattle.rules.specs.StateMap.{state_of, ShortcutAccepted, TwoSteps, AsBefore, StillNine, ShortcutOpens, AnswersWidened}
use Rattle.engine.proofs.Chain.{Has, CodeRun, CodeCall, code_after_every_list, code_by_wider_map}

-- "Technicians park a battery from Maintenance and get refusal 9. From now on that request is accepted"
pub shortcut_accepted : ShortcutAccepted CodeCall
shortcut_accepted = code_by_wider_map.shortcut_accepted

-- "and means Operational, then Dormant, at the same time."
pub two_steps : TwoSteps state_of CodeCall
two_steps = code_by_wider_map.two_steps

-- "Requests accepted before are answered as before from the same record,"
pub as_before : AsBefore CodeCall
as_before = code_by_wider_map.as_before

-- "and 9 remains for Dormant to Maintenance."
pub still_nine : StillNine CodeCall
still_nine = code_by_wider_map.still_nine

-- "The contactor rule is read with the wider state map.": after every list of calls, and of the added request alone
pub closed_by_wider_map : (battery : ℕ) (calls : List Event) (given : List ℕ) (after : Record) (contactor : Contactor)
    → CodeRun battery calls given after contactor → ClosedByRule (type_or1 battery) calls contactor
closed_by_wider_map battery calls given after contactor run = (code_after_every_list battery calls given after contactor run).closed

pub shortcut_opens : ShortcutOpens CodeCall Has
shortcut_opens = code_by_wider_map.shortcut_opens

-- which answers moved, and that no other did
pub answers_widened : AnswersWidened CodeCall
answers_widened = code_by_wider_map.answers_widened
