-- Document 01, "Bench examples": those marked P, as rows of one table, with those of document 02, S-5, and rows of our own for a release, for
-- rounding and for charge beside an implausible frame, of which the papers have none.
-- proofs/Examples has one theorem over all rows: each of them holds.
use Rattle.std.specs.Prelude.{ℕ, ◌+◌, ◌≤◌, ◌≡◌, not, T, ℤ, pos, neg_ℤ}
use mathlib.Core.List.{List, [], ◌∷◌, Memᴰ, Forall₂}
use Rattle.rules.specs.declared.sensors.Reading.{Reading}
use Rattle.rules.specs.declared.calls.Event.{Event}
use Rattle.rules.specs.declared.calls.Event.TheVariants.{Measurement, PowerOn}
use Rattle.rules.specs.Quantities.{mv, ma, ms, dc, ma_ms, mission_time}
use Rattle.rules.specs.Test.{plausible}
use Rattle.rules.specs.Protections.{other_cells, highest, permitted}
use Rattle.rules.specs.Trips.{Measured, time}
use Rattle.rules.specs.Ledger.{ledger, accepted, TrippedOn}
use Rattle.rules.specs.Accounts.{charged, discharged}

-- ---- frames: what a row says of a measurement, in mv and ma; all else may be anything

pub data Condition : Type 0 where
  some_cell : ℕ → Condition
  highest_cell : ℕ → Condition
  current_of : ℤ → Condition
  anything_plausible : Condition
  implausible : Condition

abbrev pub Reads : Condition → Reading → Type 0
Reads (some_cell v) r = T (plausible r) × Memᴰ (mv v) (r.cell0 ∷ other_cells r)
Reads (highest_cell v) r = T (plausible r) × (highest r ≡ mv v)
Reads (current_of i) r = T (plausible r) × (r.current ≡ ma i)
Reads anything_plausible r = T (plausible r)
Reads implausible r = T (not (plausible r))

pub record Frame : Type 0 where
  pub at : ℕ
  pub reads : Condition

abbrev pub frame : ℕ → Condition → Frame
frame t c = record { at = t; reads = c }

-- A frame's time counts from a start: with 0 the times are the paper's own, and where it gives none ("one frame") it may be any.
pub record Meets (start : ℕ) (f : Frame) (m : Measured) : Type 0 where
  pub at : time m ≡ start + f.at
  pub in_mission : time m ≤ mission_time.0
  pub reads : Reads f.reads m.reading

-- the calls: power on at 0, then the measurements
abbrev pub measurements : List Measured → List Event
measurements [] = []
measurements (m ∷ later) = Measurement m.at m.reading ∷ measurements later

abbrev pub session : List Measured → List Event
session taken = PowerOn (ms 0) ∷ measurements taken

-- ---- rows

pub data Outcome : Type 0 where
  clear tripped : Outcome

abbrev pub Comes : Outcome → Type 0 → Type 0
Comes clear Trips = ¬ Trips
Comes tripped Trips = Trips

pub data Row : Type 0 where
  -- a type, c and L
  permits : ℕ → ℤ → ℕ → Row
  -- types, frames, a protection's number, and what they leave it
  leaves : List ℕ → List Frame → ℕ → Outcome → Row
  -- frames, and what they charge or discharge
  charges discharges : List Frame → ℕ → Row

abbrev pub Holds : Row → Type 0
Holds (permits battery coldest current) = permitted battery (dc coldest) ≡ ma (pos current)
Holds (leaves types frames protection outcome) =
    (battery : ℕ) → Memᴰ battery types → (start : ℕ) (taken : List Measured) → Forall₂ (Meets start) frames taken
    → Comes outcome (TrippedOn battery (ledger (session taken)) protection)
Holds (charges frames amount) =
    (start : ℕ) (taken : List Measured) → Forall₂ (Meets start) frames taken → charged (accepted (session taken)) ≡ ma_ms amount
Holds (discharges frames amount) =
    (start : ℕ) (taken : List Measured) → Forall₂ (Meets start) frames taken → discharged (accepted (session taken)) ≡ ma_ms amount

abbrev pub any_type : List ℕ
any_type = 1 ∷ 2 ∷ 3 ∷ []

abbrev pub type1 : List ℕ
type1 = 1 ∷ []

-- "type 1, L at c = -1, 0, 249, 250 is 0; 1,666; 59,600; 60,000"; "type 3, c = 0: 2,500"
-- "a cell of 3,651 at 0 and 499 ms leaves 0 clear; at 0 and 500 trips it"
-- "3,651 at 0, implausible at 300, 3,651 at 600: clear"
-- "one frame of -1,100,000 leaves 5 clear; -1,100,001 trips it"
-- "type 1, -120,001 at 0 and 30,499 leaves 6 clear; at 0 and 30,500 trips it"
-- "the marked charge example now has 60,000 ma at both times": at 0 and at 1,000, charged 60,000,000
-- "Currents of 60,000 and -20,000 over 1,000 ms add 20,000,000 to charged"
-- and our own: 0 is tripped; two frames of 3,501 that are 2,000 ms apart leave it so, two of 3,500 release it; -3 ma in sum over 1 ms
-- add 1 to discharged; 1 ma in sum over 1 ms and then over 3 add 0 and 1, on either side, the product of each pair halved by itself; an
-- implausible frame parts its neighbours
unfoldable pub rows : List Row
rows =
    permits 1 (neg_ℤ (pos 1)) 0
    ∷ permits 1 (pos 0) 1_666
    ∷ permits 1 (pos 249) 59_600
    ∷ permits 1 (pos 250) 60_000
    ∷ permits 3 (pos 0) 2_500
    ∷ leaves any_type (frame 0 (some_cell 3_651) ∷ frame 499 (some_cell 3_651) ∷ []) 0 clear
    ∷ leaves any_type (frame 0 (some_cell 3_651) ∷ frame 500 (some_cell 3_651) ∷ []) 0 tripped
    ∷ leaves any_type (frame 0 (some_cell 3_651) ∷ frame 300 implausible ∷ frame 600 (some_cell 3_651) ∷ []) 0 clear
    ∷ leaves any_type (frame 0 (current_of (neg_ℤ (pos 1_100_000))) ∷ []) 5 clear
    ∷ leaves any_type (frame 0 (current_of (neg_ℤ (pos 1_100_001))) ∷ []) 5 tripped
    ∷ leaves type1 (frame 0 (current_of (neg_ℤ (pos 120_001))) ∷ frame 30_499 (current_of (neg_ℤ (pos 120_001))) ∷ []) 6 clear
    ∷ leaves type1 (frame 0 (current_of (neg_ℤ (pos 120_001))) ∷ frame 30_500 (current_of (neg_ℤ (pos 120_001))) ∷ []) 6 tripped
    ∷ charges (frame 0 (current_of (pos 60_000)) ∷ frame 1_000 (current_of (pos 60_000)) ∷ []) 60_000_000
    ∷ charges (frame 0 (current_of (pos 60_000)) ∷ frame 1_000 (current_of (neg_ℤ (pos 20_000))) ∷ []) 20_000_000
    ∷ leaves any_type (frame 0 (some_cell 3_651) ∷ frame 500 (some_cell 3_651) ∷ frame 1_000 (some_cell 3_501) ∷ frame 3_000 (some_cell 3_501) ∷ []) 0 tripped
    ∷ leaves any_type (frame 0 (some_cell 3_651) ∷ frame 500 (some_cell 3_651) ∷ frame 1_000 (highest_cell 3_500) ∷ frame 3_000 (highest_cell 3_500) ∷ []) 0 clear
    ∷ discharges (frame 0 (current_of (neg_ℤ (pos 1))) ∷ frame 1 (current_of (neg_ℤ (pos 2))) ∷ []) 1
    ∷ charges (frame 0 (current_of (neg_ℤ (pos 1))) ∷ frame 1 (current_of (pos 2)) ∷ frame 4 (current_of (neg_ℤ (pos 1))) ∷ []) 1
    ∷ discharges (frame 0 (current_of (pos 1)) ∷ frame 1 (current_of (neg_ℤ (pos 2))) ∷ frame 4 (current_of (pos 1)) ∷ []) 1
    ∷ charges (frame 0 anything_plausible ∷ frame 500 implausible ∷ frame 1_000 anything_plausible ∷ []) 0
    ∷ []
