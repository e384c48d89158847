-- A record with sound accounts has room for every call that is not refused: the last time is no later than the call's, which is within the
-- mission time, so that the accounts are within the limit of that; and a command is refused at the ceiling of their count.
use mathlib.Core.Path.{◌≡◌, refl}
use mathlib.Core.Bool.{Bool, true, false, not, cond}
use Prim.Native.Nat.{ℕ}
use native.Mathlib.Omega.{arith}
use lib.Dec.{leb, ltb, leb→le, le→leb}
use Rattle.rules.specs.declared.units.Milliseconds.{Milliseconds}
use Rattle.rules.specs.declared.states.State.{State}
use Rattle.rules.specs.declared.calls.Command.{Command}
use Rattle.rules.specs.declared.calls.Event.{Event}
use Rattle.rules.specs.declared.calls.Event.TheVariants.{Measurement, PowerOn, PowerLoss, ContactorCommand, StateRequest, BattleOverride, ClearLongTerm}
use Rattle.rules.specs.declared.battery.Live.{Live}
use Rattle.rules.specs.Quantities.{◌<ms◌, mission_time}
use Rattle.rules.specs.States.{is_powered, command_in, command_ceiling, command_allowed}
use Rattle.rules.specs.Refusals.{refusal}
use Rattle.rules.specs.Soundness.{account_limit}
use Rattle.rules.proofs.Bools.{and_iff, is_true}
use Rattle.rules.proofs.CallTable.{in_time}
use Rattle.step.specs.Sound.{sound_accounts}
use Rattle.step.specs.Refusal.{refusal_live}
use Rattle.advance.specs.Room.{accounts_room, has_room}

accounts_by : (l : Live) (e : Event) → sound_accounts l ≡ true → refusal_live l e ≡ 0 → accounts_room l.tally ≡ true
unfolding sound_accounts
accounts_by l e sound accepted =
    let most = (account_limit l.last).0 in
    let limit = (account_limit mission_time).0 in
    let time = in_time l.control.state l.last l.tally.commands e accepted in
    let both = (and_iff (leb l.tally.charged.0 most) (leb l.tally.discharged.0 most)).0 ((is_true (sound_accounts l)).1 sound) in
    let charged = leb→le l.tally.charged.0 most both.0 in
    let discharged = leb→le l.tally.discharged.0 most both.1 in
    (is_true (accounts_room l.tally)).0
    ((and_iff (leb l.tally.charged.0 limit) (leb l.tally.discharged.0 limit)).1 (
      le→leb l.tally.charged.0 limit (omega (arith, time.not_below_last, time.not_above_mission)),
      le→leb l.tally.discharged.0 limit (omega (arith, time.not_below_last, time.not_above_mission)),
    ))

-- a command that is allowed finds the count below its ceiling
below : (s : State) (n : ℕ) (c : Command) → command_allowed s n c ≡ true → ltb n command_ceiling ≡ true
below s n c h = (is_true (ltb n command_ceiling)).0 ((and_iff (command_in s c) (ltb n command_ceiling)).0 ((is_true (command_allowed s n c)).1 h)).1

-- and one that is accepted is allowed: the table's other rows do not let it pass
commands_by : (l : Live) (t : Milliseconds) (c : Command) → refusal_live l (ContactorCommand t c) ≡ 0 → ltb l.tally.commands command_ceiling ≡ true
unfolding refusal
commands_by l t c h =
    go (t <ms l.last) (mission_time <ms t) (not (is_powered l.control.state)) (command_allowed l.control.state l.tally.commands c) refl h
  where
    go : (early late off allowed : Bool) → command_allowed l.control.state l.tally.commands c ≡ allowed
        → ◌≡◌ {A = ℕ} (cond early 6 (cond late 7 (cond off 8 (cond (not allowed) 10 0)))) 0 → ltb l.tally.commands command_ceiling ≡ true
    go true late off allowed e z = absurd (omega arith)
    go false true off allowed e z = absurd (omega arith)
    go false false true allowed e z = absurd (omega arith)
    go false false false false e z = absurd (omega arith)
    go false false false true e z = below l.control.state l.tally.commands c e

pub room_by : (e : Event) (l : Live) → sound_accounts l ≡ true → refusal_live l e ≡ 0 → has_room e l ≡ true
room_by (Measurement t r) l sound accepted = accounts_by l (Measurement t r) sound accepted
room_by (PowerOn t) l sound accepted = refl
room_by (PowerLoss t) l sound accepted = refl
room_by (ContactorCommand t c) l sound accepted = commands_by l t c accepted
room_by (StateRequest t q) l sound accepted = refl
room_by (BattleOverride t on) l sound accepted = refl
room_by (ClearLongTerm t) l sound accepted = refl
