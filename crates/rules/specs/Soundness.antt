-- Document 01, "Where each number is raised", its last paragraph: the record is unsound if one of these fails, and only then. Number 5 is
-- for an unsound record.
use Rattle.std.specs.Prelude.{ℕ, ◌*◌, ◌≤◌, ◌<◌, List, T, nat_abs, get_or, Option, None, Some}
use Rattle.rules.specs.declared.units.Milliseconds.{Milliseconds}
use Rattle.rules.specs.declared.units.Charge.{Charge}
use Rattle.rules.specs.declared.units.Milliamperes.{Milliamperes}
use Rattle.rules.specs.declared.battery.Record.{Record}
use Rattle.rules.specs.Quantities.{ma_ms, mission_time, is_type}
use Rattle.rules.specs.Test.{greatest_current, current_in_range}
use Rattle.rules.specs.Shown.{Span, Idle, Beyond, Within, kept_of}

-- a span start is not later than the last time
abbrev pub StartedBy : Milliseconds → Span → Type 0
StartedBy last Idle = Unit {0}
StartedBy last (Beyond start) = start.0 ≤ last.0
StartedBy last (Within start) = start.0 ≤ last.0

-- the last measurement, if it was plausible: its time and current
abbrev pub Previous : Type 0
Previous = Option (Milliseconds × Milliamperes)

-- nor is the last measurement
abbrev pub MeasuredBy : Milliseconds → Previous → Type 0
MeasuredBy last None = Unit {0}
MeasuredBy last (Some (t, i)) = t.0 ≤ last.0

abbrev pub KeptInRange : Previous → Type 0
KeptInRange None = Unit {0}
KeptInRange (Some (t, i)) = T (current_in_range i)

-- every counted protection number is at most 7
abbrev pub ProtectionsBelow8 : ℕ → List ℕ → Type 0
ProtectionsBelow8 count protections = (place : ℕ) → place < count → get_or protections place 0 ≤ 7

-- the most that an account may hold at a last time: "2,000,000 × last time", the greatest current all that time
abbrev pub account_limit : Milliseconds → Charge
account_limit last = ma_ms (nat_abs greatest_current.0 * last.0)

-- document 01: "Unsound"; each part is one condition of its list
pub record Sound (r : Record) : Type 0 where
  -- "type not 1, 2, 3"
  pub battery : T (is_type r.live.battery)
  -- "last time above 345,600,000"
  pub last_time : r.live.last.0 ≤ mission_time.0
  -- "more than 64 or 16 entries counted"
  pub long_count : r.stores.long.count ≤ 64
  pub short_count : r.stores.short.count ≤ 16
  -- "a counted entry's protection above 7"
  pub long_protections : ProtectionsBelow8 r.stores.long.count r.stores.long.protections
  pub short_protections : ProtectionsBelow8 r.stores.short.count r.stores.short.protections
  -- "a sensor mask above 13 bits"
  pub mask : r.live.watch.mask < 8_192
  -- "an account above 2,000,000 × last time"
  pub charged : r.live.tally.charged.0 ≤ (account_limit r.live.last).0
  pub discharged : r.live.tally.discharged.0 ≤ (account_limit r.live.last).0
  -- "a span start or last measurement later than the last time"
  pub spans : (protection : ℕ) → protection < 8 → StartedBy r.live.last (kept_of r protection).span
  pub previous : MeasuredBy r.live.last r.live.watch.previous
  -- "a kept current outside the plausible range"
  pub current : KeptInRange r.live.watch.previous
