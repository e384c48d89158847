-- Document 01, "Protections", its last paragraph: spans, their lengths, and when a protection is tripped.
-- A session's measurements stand newest first, so that the list with one more is that one in front of it: `back taken k` is the
-- measurement k places before the last, and "later" is a smaller k.
use Rattle.std.specs.Prelude.{ℕ, ◌≤◌, ◌<◌, Bool, false, not, ◌&&◌, ◌||◌, List, [], ◌∷◌, T, pos, length, get_or}
use Rattle.rules.specs.declared.units.Milliseconds.{Milliseconds}
use Rattle.rules.specs.declared.sensors.Reading.{Reading}
use Rattle.rules.specs.Quantities.{mv, ma, ms, dc, ◌≤ms◌, elapsed}
use Rattle.rules.specs.Test.{plausible}
use Rattle.rules.specs.Protections.{Protection}

-- an accepted measurement: its time and what it reads
pub record Measured : Type 0 where
  pub at : Milliseconds
  pub reading : Reading

-- its time as a number
abbrev pub time : Measured → ℕ
time m = m.at.0

-- what stands past a list's end, and is never asked for: `Row` asks for positions inside
abbrev pub no_measurement : Measured
no_measurement = record {
  at = ms 0;
  reading = record {
    cell0 = mv 0;
    cell1 = mv 0;
    cell2 = mv 0;
    cell3 = mv 0;
    cell4 = mv 0;
    cell5 = mv 0;
    cell6 = mv 0;
    cell7 = mv 0;
    current = ma (pos 0);
    temperature0 = dc (pos 0);
    temperature1 = dc (pos 0);
    temperature2 = dc (pos 0);
    temperature3 = dc (pos 0);
  };
}

abbrev pub back : List Measured → ℕ → Measured
back taken k = get_or taken k no_measurement

-- plausible, and passing a test
abbrev pub passes : (Reading → Bool) → Measured → Bool
passes test m = plausible m.reading && test m.reading

-- document 01: "A span is any unbroken row, of one or more, of the session's accepted measurements, all plausible and all beyond (or all
-- within)", here from the measurement `first` places back to the one `last` places back
pub record Span (test : Reading → Bool) (taken : List Measured) (first last : ℕ) : Type 0 where
  pub order : last ≤ first
  pub there : first < length taken
  pub all : (k : ℕ) → last ≤ k → k ≤ first → T (passes test (back taken k))

-- "its length is its last time minus its first"
abbrev pub length_of : List Measured → ℕ → ℕ → Milliseconds
length_of taken first last = elapsed (back taken first).at (back taken last).at

-- a span of length at least d ended at the measurement `last` places back
abbrev pub Ended : (Reading → Bool) → Milliseconds → List Measured → ℕ → Type 0
Ended test d taken last = (first : ℕ) × Span test taken first last × (d.0 ≤ (length_of taken first last).0)

-- document 01: "A protection is tripped after a list exactly if some beyond span of length at least its hold ended at a measurement of
-- this session, and no within span of length at least its release time ended later."
abbrev pub Tripped : Protection → List Measured → Type 0
Tripped p taken =
    (end : ℕ) × Ended p.beyond p.hold taken end × ((later : ℕ) → later < end → ¬ Ended p.within p.release taken later)

-- The same as a test that computes; proofs/Decide has that the two agree, for any protection.
-- a span ends at the newest measurement, and goes back to one at least d before the time t
abbrev pub reaches : (Reading → Bool) → Milliseconds → Milliseconds → List Measured → Bool
reaches test d t [] = false
reaches test d t (m ∷ taken) = passes test m && ((d ≤ms elapsed m.at t) || reaches test d t taken)

abbrev pub ends_now : (Reading → Bool) → Milliseconds → List Measured → Bool
ends_now test d [] = false
ends_now test d (m ∷ taken) = reaches test d m.at (m ∷ taken)

abbrev pub is_tripped : Protection → List Measured → Bool
is_tripped p [] = false
is_tripped p (m ∷ taken) =
    ends_now p.beyond p.hold (m ∷ taken) || (not (ends_now p.within p.release (m ∷ taken)) && is_tripped p taken)
