-- An accepted call leaves a record that shows the ledger after it: one line for each kind of call.
use mathlib.Core.Path.{refl}
use mathlib.Core.List.{List, ◌∷◌}
use Rattle.rules.specs.declared.states.State.TheVariants.{Unpowered, Dormant}
use Rattle.rules.specs.declared.calls.Event.{Event}
use Rattle.rules.specs.declared.calls.Event.TheVariants.{Measurement, PowerOn, PowerLoss, ContactorCommand, StateRequest, BattleOverride, ClearLongTerm}
use Rattle.rules.specs.declared.battery.Record.{Record}
use Rattle.rules.specs.Calls.{time_of}
use Rattle.rules.specs.Refusals.{InTime}
use Rattle.rules.specs.Ledger.{Ledger, accept, Accepted, entered}
use Rattle.step.specs.Call.{advance}
use Rattle.step.proofs.Shows.{Shows}
use Rattle.step.proofs.Measuring.{measured}
use Rattle.step.proofs.Setting.{commanded, requested', overridden, cleared, bordered}

pub accepted : (r : Record) (l : Ledger) (past : List Accepted) → Shows r l past → (e : Event) → InTime l.last (time_of e)
    → Shows (advance r e) (accept l e) (entered l e ∷ past)
accepted r l past k (Measurement t m) h = measured r l past k t m h
accepted r l past k (PowerOn t) h = bordered r l past k t h Dormant (entered l (PowerOn t)) (record { charged = refl; discharged = refl }) refl refl
accepted r l past k (PowerLoss t) h = bordered r l past k t h Unpowered (entered l (PowerLoss t)) (record { charged = refl; discharged = refl }) refl refl
accepted r l past k (ContactorCommand t c) h = commanded r l past k t h c
accepted r l past k (StateRequest t q) h = requested' r l past k t h q
accepted r l past k (BattleOverride t on) h = overridden r l past k t h on
accepted r l past k (ClearLongTerm t) h = cleared r l past k t h
