-- What is watched: test, failed sensors, and for each protection its span and whether it is tripped. It sees battery, time, reading and
-- itself, and nothing else of the record.
use Rattle.std.specs.Prelude.{ℕ, ◌-◌, Bool, true, false, not, cond, ◌&&◌, ◌||◌, leb, get_or}
use Rattle.rules.specs.declared.units.Milliamperes.{Milliamperes}
use Rattle.rules.specs.declared.units.Milliseconds.{Milliseconds}
use Rattle.rules.specs.declared.sensors.Reading.{Reading}
use Rattle.rules.specs.declared.states.TestResult.TheVariants.{Passed, Failed}
use Rattle.rules.specs.Soundness.{Previous}
use Rattle.std.specs.Prelude.{None, Some}
use Rattle.rules.specs.declared.session.Watch.{Watch}
use Rattle.rules.specs.Test.{plausible, failed_mask, failed_count}
use Rattle.rules.specs.Quantities.{ms}
use Rattle.rules.specs.Protections.{Protection, row_of, mask_below}
use Rattle.rules.specs.Shown.{Span, Idle, Beyond, Within, ProtectionState, kept_at}
use Rattle.rules.specs.Lists.{tabulate}

-- ---- one protection

abbrev pub beyond_since : Milliseconds → Span → Span
beyond_since t Idle = Beyond t
beyond_since t (Beyond start) = Beyond start
beyond_since t (Within start) = Beyond t

abbrev pub within_since : Milliseconds → Span → Span
within_since t Idle = Within t
within_since t (Beyond start) = Within t
within_since t (Within start) = Within start

-- the longest span that ends at a measurement: whether it is plausible and beyond, whether plausible and within, its time, the span
-- before it
abbrev pub span_at : Bool → Bool → Milliseconds → Span → Span
span_at true within t span = beyond_since t span
span_at false true t span = within_since t span
span_at false false t span = Idle

-- tripped once a beyond span has lasted the hold, until a within span has lasted the release time
abbrev pub tripped_at : Milliseconds → Milliseconds → Milliseconds → Span → Bool → Bool
tripped_at hold release t Idle was = was
tripped_at hold release t (Beyond start) was = leb hold.0 (t.0 - start.0) || was
tripped_at hold release t (Within start) was = not (leb release.0 (t.0 - start.0)) && was

abbrev pub tracked : Bool → Bool → Milliseconds → Milliseconds → Milliseconds → ProtectionState → ProtectionState
tracked beyond within hold release t s = record {
  span = span_at beyond within t s.span;
  tripped = tripped_at hold release t (span_at beyond within t s.span) s.tripped;
}

unfoldable pub track_one : Protection → Milliseconds → Reading → ProtectionState → ProtectionState
track_one p t r s = tracked (plausible r && p.beyond r) (plausible r && p.within r) p.hold p.release t s

-- ---- all of them

abbrev pub is_beyond : Span → Bool
is_beyond Idle = false
is_beyond (Beyond start) = true
is_beyond (Within start) = false

abbrev pub is_within : Span → Bool
is_within Idle = false
is_within (Beyond start) = false
is_within (Within start) = true

-- the start of a span; where there is none, what stood there is left
abbrev pub start_or : Milliseconds → Span → Milliseconds
start_or old Idle = old
start_or old (Beyond start) = start
start_or old (Within start) = start

-- what is watched, with the states of the protections written anew
unfoldable pub keeping : (ℕ → ProtectionState) → Watch → Watch
keeping state w = record {
  test = w.test;
  tripped = mask_below (λ protection. (state protection).tripped) 8;
  beyond = mask_below (λ protection. is_beyond (state protection).span) 8;
  within = mask_below (λ protection. is_within (state protection).span) 8;
  mask = w.mask;
  failed = w.failed;
  previous = w.previous;
  since = tabulate 8 (λ protection. start_or (get_or w.since protection (ms 0)) (state protection).span);
}

abbrev pub track_all : ℕ → Milliseconds → Reading → Watch → Watch
track_all battery t r w = keeping (λ protection. track_one (row_of battery protection) t r (kept_at w protection)) w

-- the last measurement, if it is plausible
abbrev pub previous_by : Bool → Milliseconds → Milliamperes → Previous
previous_by plausible t i = cond plausible (Some (t, i)) None

-- what is watched, with a measurement's own part written anew: its test, its failed sensors, its time and current
abbrev pub testing : Milliseconds → Reading → Watch → Watch
testing t r w = record {
  test = cond (plausible r) Passed Failed;
  tripped = w.tripped;
  beyond = w.beyond;
  within = w.within;
  mask = failed_mask r;
  failed = failed_count r;
  previous = previous_by (plausible r) t r.current;
  since = w.since;
}

unfoldable pub observe : ℕ → Milliseconds → Reading → Watch → Watch
observe battery t r w = testing t r (track_all battery t r w)
