-- A record whose stores have arrays of their declared lengths, as the types of a record have it.
use Rattle.rules.specs.declared.battery.Record.{Record}
use Rattle.step.proofs.Storing.{LongSized, ShortSized}

pub record Shaped (r : Record) : Type 0 where
  pub long : LongSized r.stores.long
  pub short : ShortSized r.stores.short
