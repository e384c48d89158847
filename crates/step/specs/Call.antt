-- One call on a record, and the run of a list of calls.
use Rattle.std.specs.Prelude.{ℕ, zero, suc, ◌+◌, Bool, not, cond, ◌&&◌, List, [], ◌∷◌}
use Rattle.rules.specs.declared.units.Milliseconds.{Milliseconds}
use Rattle.rules.specs.declared.sensors.Reading.{Reading}
use Rattle.rules.specs.declared.states.State.{State}
use Rattle.rules.specs.declared.states.State.TheVariants.{Unpowered, Dormant}
use Rattle.rules.specs.declared.calls.Command.{Command}
use Rattle.rules.specs.declared.calls.Command.TheVariants.{Automated}
use Rattle.rules.specs.declared.calls.Request.{Request}
use Rattle.rules.specs.declared.calls.Event.{Event}
use Rattle.rules.specs.declared.calls.Event.TheVariants.{Measurement, PowerOn, PowerLoss, ContactorCommand, StateRequest, BattleOverride, ClearLongTerm}
use Rattle.rules.specs.declared.battery.Control.{Control}
use Rattle.rules.specs.declared.battery.Tally.{Tally}
use Rattle.rules.specs.declared.battery.Live.{Live}
use Rattle.rules.specs.declared.stores.LongTerm.{LongTerm}
use Rattle.rules.specs.declared.stores.ShortTerm.{ShortTerm}
use Rattle.rules.specs.declared.stores.Stores.{Stores}
use Rattle.rules.specs.declared.battery.Record.{Record}
use Rattle.rules.specs.Numbers.{Outcome}
use Rattle.rules.specs.States.{requested, is_change, enters_dormant}
use Rattle.rules.specs.Test.{plausible}
use Rattle.step.specs.Fresh.{no_watch, control_in, no_short_term, no_long_term}
use Rattle.step.specs.Refusal.{refusal}
use Rattle.step.specs.Track.{observe}
use Rattle.step.specs.Push.{push_longs, push_shorts}
use Rattle.step.specs.Charge.{charge}

-- ---- what an accepted call makes of the live part

abbrev pub measure_live : Milliseconds → Reading → Live → Live
measure_live t r l = record {
  battery = l.battery;
  last = t;
  control = l.control;
  watch = observe l.battery t r l.watch;
  tally = charge l.watch.previous (plausible r) t r.current l.tally;
}

-- the border of a session: what power on and power loss write anew; type, tally and the long-term store stay
abbrev pub border_live : State → Milliseconds → Live → Live
border_live s t l = record { battery = l.battery; last = t; control = control_in s; watch = no_watch; tally = l.tally }

-- a call that sets nothing but these
abbrev pub set_live : Milliseconds → Control → Tally → Live → Live
set_live t c n l = record { battery = l.battery; last = t; control = c; watch = l.watch; tally = n }

abbrev pub command_live : Milliseconds → Command → Live → Live
command_live t c l =
    set_live t (record { state = l.control.state; command = c; overriding = l.control.overriding })
    (record { commands = l.tally.commands + 1; charged = l.tally.charged; discharged = l.tally.discharged }) l

-- a request of a state: as the ledger takes it
abbrev pub request_control : Request → Control → Control
request_control q c = record {
  state = requested q;
  command = cond (is_change c.state q) Automated c.command;
  overriding = not (enters_dormant c.state q) && c.overriding;
}

abbrev pub override_control : Bool → Control → Control
override_control on c = record { state = c.state; command = c.command; overriding = on }

abbrev pub advance_live : Event → Live → Live
advance_live (Measurement t r) l = measure_live t r l
advance_live (PowerOn t) l = border_live Dormant t l
advance_live (PowerLoss t) l = border_live Unpowered t l
advance_live (ContactorCommand t c) l = command_live t c l
advance_live (StateRequest t q) l = set_live t (request_control q l.control) l.tally l
advance_live (BattleOverride t on) l = set_live t (override_control on l.control) l.tally l
advance_live (ClearLongTerm t) l = set_live t l.control l.tally l

-- ---- and of the stores: from the live part before it and after it

-- by what a call can change of the stores: a measurement, the border of a session, a clear, or any other call
abbrev pub by_kind : {A : Type 0} → (measurement : Milliseconds → Reading → A) → (border clear other : A) → Event → A
by_kind measurement border clear other (Measurement t r) = measurement t r
by_kind measurement border clear other (PowerOn t) = border
by_kind measurement border clear other (PowerLoss t) = border
by_kind measurement border clear other (ContactorCommand t c) = other
by_kind measurement border clear other (StateRequest t q) = other
by_kind measurement border clear other (BattleOverride t on) = other
by_kind measurement border clear other (ClearLongTerm t) = clear

abbrev pub advance_long : Event → Live → Live → LongTerm → LongTerm
advance_long e before after s =
    by_kind (λ t r. push_longs before.battery t r before.watch.tripped after.watch.tripped s) s no_long_term s e

abbrev pub advance_short : Event → Live → Live → ShortTerm → ShortTerm
advance_short e before after s =
    by_kind (λ t r. push_shorts before.battery t r before.watch.tripped after.watch.tripped s) no_short_term s s e

abbrev pub advance_stores : Event → Live → Live → Stores → Stores
advance_stores e before after s = record {
  short = advance_short e before after s.short;
  long = advance_long e before after s.long;
}

abbrev pub advance : Record → Event → Record
advance r e = record {
  live = advance_live e r.live;
  stores = advance_stores e r.live (advance_live e r.live) r.stores;
}

-- ---- a call and a list of calls

abbrev pub answer : ℕ → Record → Record → Outcome
answer zero accepted before = record { refusal = 0; after = accepted }
answer (suc n) accepted before = record { refusal = suc n; after = before }

abbrev pub call : Record → Event → Outcome
call r e = answer (refusal r e) (advance r e) r

-- each call on the record that the one before it left
abbrev pub run : Record → List Event → Record
run r [] = r
run r (e ∷ es) = run (call r e).after es

abbrev pub answers : Record → List Event → List ℕ
answers r [] = []
answers r (e ∷ es) = (call r e).refusal ∷ answers (call r e).after es
