-- The refusal of a call on a record: 5 for an unsound one, else what the table of the rules says on the record's own state, last time and
-- command count.
use Rattle.std.specs.Prelude.{ℕ, Bool, cond, ◌&&◌}
use Rattle.rules.specs.declared.calls.Event.{Event}
use Rattle.rules.specs.declared.battery.Live.{Live}
use Rattle.rules.specs.declared.battery.Record.{Record}
use Rattle.rules.specs.Refusals.{refusal as refusal_by_table}
use Rattle.step.specs.Sound.{sound_accounts, sound}

abbrev pub refusal_live : Live → Event → ℕ
refusal_live l e = refusal_by_table l.control.state l.last l.tally.commands e

abbrev pub refusal : Record → Event → ℕ
refusal r e = cond (sound r) (refusal_live r.live e) 5

-- the same, where what no call changes of soundness was tested before, with this result
abbrev pub refusal_tested : Bool → Live → Event → ℕ
refusal_tested rest l e = cond (rest && sound_accounts l) (refusal_live l e) 5
