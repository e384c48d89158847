-- A call from its two parts: what it makes of the live part, and what it then writes to the stores.
use Rattle.std.specs.Prelude.{cond}
use Rattle.rules.specs.declared.calls.Event.{Event}
use Rattle.rules.specs.declared.battery.Record.{Record}
use Rattle.rules.specs.Numbers.{Outcome}
use Rattle.step.specs.Call.{advance_stores}
use Rattle.judging.specs.Judging.{Judgement}

abbrev pub joined : Record → Event → Judgement → Outcome
joined r e j = record {
  refusal = j.refusal;
  after = record { live = j.live; stores = cond j.changed (advance_stores e r.live j.live r.stores) r.stores };
}
