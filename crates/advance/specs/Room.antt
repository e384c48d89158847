-- What a call makes of any live part: numbers of 64 and 32 bits have room for what it adds, or nothing changes.
use Rattle.std.specs.Prelude.{Bool, true, cond, ◌&&◌, leb, ltb}
use Rattle.rules.specs.declared.calls.Event.{Event}
use Rattle.rules.specs.declared.calls.Event.TheVariants.{Measurement, PowerOn, PowerLoss, ContactorCommand, StateRequest, BattleOverride, ClearLongTerm}
use Rattle.rules.specs.declared.battery.Tally.{Tally}
use Rattle.rules.specs.declared.battery.Live.{Live}
use Rattle.rules.specs.Quantities.{mission_time}
use Rattle.rules.specs.States.{command_ceiling}
use Rattle.rules.specs.Soundness.{account_limit}
use Rattle.step.specs.Call.{advance_live}

-- no account holds more than a sound record's can
abbrev pub accounts_room : Tally → Bool
accounts_room n = leb n.charged.0 (account_limit mission_time).0 && leb n.discharged.0 (account_limit mission_time).0

-- a sound live part has room for every call that is not refused
abbrev pub has_room : Event → Live → Bool
has_room (Measurement t r) l = accounts_room l.tally
has_room (PowerOn t) l = true
has_room (PowerLoss t) l = true
has_room (ContactorCommand t c) l = ltb l.tally.commands command_ceiling
has_room (StateRequest t q) l = true
has_room (BattleOverride t on) l = true
has_room (ClearLongTerm t) l = true

abbrev pub advance_within : Event → Live → Live
advance_within e l = cond (has_room e l) (advance_live e l) l
