-- The fresh record of a type, and what a power on or a power loss writes anew.
use Rattle.std.specs.Prelude.{ℕ, false, cond, ◌&&◌, leb, pos, replicate}
use Rattle.rules.specs.declared.states.State.{State}
use Rattle.rules.specs.declared.states.State.TheVariants.{Unpowered}
use Rattle.rules.specs.declared.states.TestResult.TheVariants.{NotRun}
use Rattle.rules.specs.declared.calls.Command.TheVariants.{Automated}
use Rattle.std.specs.Prelude.{None}
use Rattle.rules.specs.declared.session.Watch.{Watch}
use Rattle.rules.specs.declared.stores.LongTerm.{LongTerm}
use Rattle.rules.specs.declared.stores.ShortTerm.{ShortTerm}
use Rattle.rules.specs.declared.battery.Control.{Control}
use Rattle.rules.specs.declared.battery.Tally.{Tally}
use Rattle.rules.specs.declared.battery.Record.{Record}
use Rattle.rules.specs.Numbers.{FreshAnswer}

abbrev pub no_watch : Watch
no_watch = record {
  test = NotRun;
  tripped = 0;
  beyond = 0;
  within = 0;
  mask = 0;
  failed = 0;
  previous = None;
  since = replicate 8 (record { 0 = 0 });
}

abbrev pub control_in : State → Control
control_in s = record { state = s; command = Automated; overriding = false }

abbrev pub no_long_term : LongTerm
no_long_term = record { times = replicate 64 (record { 0 = 0 }); protections = replicate 64 0; values = replicate 64 (pos 0); count = 0 }

abbrev pub no_short_term : ShortTerm
no_short_term = record {
  times = replicate 16 (record { 0 = 0 });
  protections = replicate 16 0;
  values = replicate 16 (pos 0);
  releases = replicate 16 false;
  count = 0;
}

abbrev pub no_tally : Tally
no_tally = record { commands = 0; charged = record { 0 = 0 }; discharged = record { 0 = 0 } }

abbrev pub fresh_record : ℕ → Record
fresh_record battery = record {
  live = record { battery = battery; last = record { 0 = 0 }; control = control_in Unpowered; watch = no_watch; tally = no_tally };
  stores = record { short = no_short_term; long = no_long_term };
}

-- a number for any other type, beside the fresh record of type 1
abbrev pub fresh : ℕ → FreshAnswer
fresh battery = cond (leb 1 battery && leb battery 3) (record { refusal = 0; start = fresh_record battery }) (record { refusal = 1; start = fresh_record 1 })
