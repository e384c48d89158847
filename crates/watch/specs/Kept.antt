-- What is watched, by what a measurement shows and what is kept of the protections.
use Rattle.std.specs.Prelude.{ℕ, Bool, true, false, cond, ◌&&◌, eqb}
use Rattle.std.specs.Int.Bits.{bit_or}
use Rattle.std.specs.Int.Count.{ones}
use Rattle.rules.specs.declared.units.Milliamperes.{Milliamperes}
use Rattle.rules.specs.declared.units.Milliseconds.{Milliseconds}
use Rattle.rules.specs.declared.sensors.Reading.{Reading}
use Rattle.rules.specs.declared.states.TestResult.TheVariants.{Passed, Failed}
use Rattle.rules.specs.declared.session.Watch.{Watch}
use Rattle.rules.specs.Test.{plausible, failed_mask}
use Rattle.step.specs.Track.{previous_by}
use Rattle.protection.specs.Rows.{masks_of}
use Rattle.tracking.specs.declared.Kept.{Kept}
use Rattle.tracking.specs.Masks.{tracked_by}
use Rattle.watch.specs.declared.Seen.{Seen}

abbrev pub kept_by : Watch → Kept
kept_by w = record { tripped = w.tripped; beyond = w.beyond; within = w.within; since = w.since }

-- every protection is in a within span, and none is tripped
abbrev pub is_settled : Watch → Bool
is_settled w = eqb (bit_or w.beyond w.tripped) 0 && eqb w.within 255

-- what a measurement shows that is within all limits, and so is plausible and beyond none
abbrev pub calm_seen : Seen
calm_seen = record { plausible = true; beyond = 0; within = 255; mask = 0 }

-- what a measurement shows, where it is told to be calm or not
abbrev pub seen_by : Bool → ℕ → Reading → Seen
seen_by true battery r = calm_seen
seen_by false battery r = record {
  plausible = plausible r;
  beyond = cond (plausible r) (masks_of battery r).beyond 0;
  within = cond (plausible r) (masks_of battery r).within 0;
  mask = cond (plausible r) 0 (failed_mask r);
}

-- after a measurement of a current that shows this, with what is then kept of the protections
abbrev pub shown_with : Seen → Milliseconds → Milliamperes → Kept → Watch
shown_with s t i k = record {
  test = cond s.plausible Passed Failed;
  tripped = k.tripped;
  beyond = k.beyond;
  within = k.within;
  mask = s.mask;
  failed = ones s.mask;
  previous = previous_by s.plausible t i;
  since = k.since;
}

abbrev pub watched_by : Seen → Milliseconds → Milliamperes → Watch → Watch
watched_by s t i w = shown_with s t i (tracked_by s.beyond s.within t (kept_by w))
