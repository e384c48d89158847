-- Document 01, "Worthless engines" and "Bench mistakes seen", as rows of one table: short lists, and what an engine that meets the claims
-- shows after each; and rows for document 02, S-3 and S-5. What is worthless or mistaken shows something else. proofs/Worthless has one
-- theorem over all rows.
use Rattle.std.specs.Prelude.{ℕ, zero, suc, ◌+◌, ◌≡◌, ◌≢◌, Bool, true, List, [], ◌∷◌, ◌++◌, ℤ, pos, neg_ℤ}
use Rattle.rules.specs.declared.sensors.Reading.{Reading}
use Rattle.rules.specs.declared.states.Contactor.{Contactor}
use Rattle.rules.specs.declared.calls.Command.TheVariants.{Automated, Open, ForceClosed}
use Rattle.rules.specs.declared.calls.Request.TheVariants.{Dormant, Operational, Maintenance}
use Rattle.rules.specs.declared.calls.Event.{Event}
use Rattle.rules.specs.declared.calls.Event.TheVariants.{Measurement, PowerOn, PowerLoss, ContactorCommand, StateRequest, BattleOverride}
use Rattle.rules.specs.declared.stores.Entry.{Entry}
use Rattle.rules.specs.declared.stores.Entry.TheVariants.{Trip}
use Rattle.rules.specs.declared.battery.Record.{Record}
use Rattle.rules.specs.Lists.{Each}
use Rattle.rules.specs.Quantities.{mv, ma, ms, dc, ma_ms}
use Rattle.rules.specs.Numbers.{override_number, contactor_number}
use Rattle.rules.specs.Shared.{shown_by}
use Rattle.rules.specs.Claims.{Engine}

-- ---- what is seen after a list

pub data Sight : Type 0 where
  answers : List ℕ → Sight
  battery_type state command override last commands test failed_mask failed_count : ℕ → Sight
  tripped clear : ℕ → Sight
  charged discharged : ℕ → Sight
  long_term short_term : List Entry → Sight
  closed open' : Sight

abbrev pub Seen : List ℕ → Record → Contactor → Sight → Type 0
Seen given after contactor (answers ns) = given ≡ ns
Seen given after contactor (battery_type n) = after.live.battery ≡ n
Seen given after contactor (state n) = (shown_by after).state ≡ n
Seen given after contactor (command n) = (shown_by after).command ≡ n
Seen given after contactor (override n) = override_number after.live.control.overriding ≡ n
Seen given after contactor (last n) = after.live.last ≡ ms n
Seen given after contactor (commands n) = (shown_by after).commands ≡ n
Seen given after contactor (test n) = (shown_by after).test ≡ n
Seen given after contactor (failed_mask n) = (shown_by after).failed_mask ≡ n
Seen given after contactor (failed_count n) = (shown_by after).failed_count ≡ n
Seen given after contactor (tripped protection) = (shown_by after).tripped protection
Seen given after contactor (clear protection) = ¬ (shown_by after).tripped protection
Seen given after contactor (charged n) = (shown_by after).charged ≡ ma_ms n
Seen given after contactor (discharged n) = (shown_by after).discharged ≡ ma_ms n
Seen given after contactor (long_term es) = (shown_by after).long_term ≡ es
Seen given after contactor (short_term es) = (shown_by after).short_term ≡ es
Seen given after contactor closed = contactor_number contactor ≡ 1
Seen given after contactor open' = contactor_number contactor ≢ 1

-- ---- calls

-- cell 0, the other cells, the current and all temperatures
abbrev pub reading : ℕ → ℕ → ℤ → ℤ → Reading
reading cell cells current temperature = record {
  cell0 = mv cell;
  cell1 = mv cells;
  cell2 = mv cells;
  cell3 = mv cells;
  cell4 = mv cells;
  cell5 = mv cells;
  cell6 = mv cells;
  cell7 = mv cells;
  current = ma current;
  temperature0 = dc temperature;
  temperature1 = dc temperature;
  temperature2 = dc temperature;
  temperature3 = dc temperature;
}

abbrev pub cells_of : ℕ → ℕ → Event
cells_of t cells = Measurement (ms t) (reading cells cells (pos 0) (pos 250))

abbrev pub current_of : ℕ → ℤ → Event
current_of t current = Measurement (ms t) (reading 3_300 3_300 current (pos 250))

abbrev pub power_on : ℕ → Event
power_on t = PowerOn (ms t)

abbrev pub power_loss : ℕ → Event
power_loss t = PowerLoss (ms t)

abbrev pub to_dormant : Event
to_dormant = StateRequest (ms 0) Dormant

abbrev pub to_operational : Event
to_operational = StateRequest (ms 0) Operational

abbrev pub to_maintenance : Event
to_maintenance = StateRequest (ms 0) Maintenance

-- the lowest cell low for the hold of protection 1, which is liftable
abbrev pub low_cells : List Event
low_cells = cells_of 0 1_699 ∷ cells_of 2_000 1_699 ∷ []

abbrev pub low_cell_trip : List Entry
low_cell_trip = Trip (ms 2_000) 1 (pos 1_699) ∷ []

-- the same but for override
abbrev pub low_cells_under : Bool → List Event
low_cells_under on = power_on 0 ∷ to_operational ∷ BattleOverride (ms 0) on ∷ low_cells

-- the input of "The program"
abbrev pub example : List Event
example = power_on 0 ∷ to_operational ∷ cells_of 1_000 3_300 ∷ ContactorCommand (ms 1_000) ForceClosed ∷ []

abbrev pub low_cells_forced : List Event
low_cells_forced = power_on 0 ∷ to_operational ∷ to_maintenance ∷ ContactorCommand (ms 0) ForceClosed ∷ low_cells

-- Maintenance with Force closed in force and override on: the contactor is closed
abbrev pub forced : List Event
forced = power_on 0 ∷ to_operational ∷ to_maintenance ∷ ContactorCommand (ms 0) ForceClosed ∷ BattleOverride (ms 0) true ∷ cells_of 0 3_300 ∷ []

-- the highest cell high for the hold of protection 0, on both sides of a power loss
abbrev pub over_power_loss : List Event
over_power_loss = power_on 0 ∷ cells_of 0 3_651 ∷ power_loss 250 ∷ power_on 250 ∷ cells_of 500 3_651 ∷ []

-- and high for its hold, then between beyond and within for its release time
abbrev pub between_after_trip : List Event
between_after_trip = power_on 0 ∷ cells_of 0 3_651 ∷ cells_of 500 3_651 ∷ cells_of 1_000 3_501 ∷ cells_of 3_000 3_501 ∷ []

-- one session for each millisecond from a start on, with one trip of protection 5, whose hold is 0
abbrev pub sessions : ℕ → ℕ → List Event
sessions t zero = []
sessions t (suc n) = power_on t ∷ current_of t (neg_ℤ (pos 1_100_001)) ∷ power_loss t ∷ sessions (t + 1) n

abbrev pub session_trips : ℕ → ℕ → List Entry
session_trips t zero = []
session_trips t (suc n) = Trip (ms t) 5 (neg_ℤ (pos 1_100_001)) ∷ session_trips (t + 1) n

-- ---- rows

pub record Row : Type 0 where
  pub battery : ℕ
  pub calls : List Event
  pub shows : List Sight

abbrev pub row : ℕ → List Event → List Sight → Row
row battery calls shows = record { battery = battery; calls = calls; shows = shows }

-- whenever the engine ran the row's list, each of its sights is seen
abbrev pub Shows : Engine → Row → Type 0
Shows engine r = (given : List ℕ) (after : Record) (contactor : Contactor) → engine r.battery r.calls given after contactor
    → Each (Seen given after contactor) r.shows

-- "refuses each call"
-- "contactor open for good", "steps that only advance the time": the input of "The program"
-- "obeys the first session, then copies its last answer"
-- "made-up command count": of three commands one is refused, and a power loss leaves the count
-- "made-up .. sensor count": all cells but the first
-- the accounts, by the mean current of document 02, S-5: a second from 60,000 ma to -20,000, then one to -10,000
-- "skipping trip entries under override"
-- "letting Force closed pass a tripped protection with override off"
-- "stretching a span over a power loss"
-- "counting values between beyond and within as within"
-- "keeping the newest 64"
-- beside number 1, a record of type 1
-- document 02, S-3: Maintenance with Force closed and override on; then straight to Dormant, which ends both
-- document 02, S-5: each pair's product is halved, towards zero; a power loss parts two measurements; the greatest current for the whole
-- mission meets the soundness limit
unfoldable pub rows : List Row
rows =
    row 1 (power_on 0 ∷ power_loss 0 ∷ power_on 7 ∷ []) (answers (0 ∷ 0 ∷ 0 ∷ []) ∷ state 1 ∷ last 7 ∷ [])
    ∷ row 1 example (answers (0 ∷ 0 ∷ 0 ∷ 10 ∷ []) ∷ state 2 ∷ test 1 ∷ closed ∷ [])
    ∷ row 1 (power_on 0 ∷ power_loss 0 ∷ cells_of 0 3_300 ∷ power_on 0 ∷ to_maintenance ∷ to_operational ∷ []) (answers (0 ∷ 0 ∷ 8 ∷ 0 ∷ 9 ∷ 0 ∷ []) ∷ state 2 ∷ [])
    ∷ row 1
    (power_on 0 ∷ to_operational ∷ ContactorCommand (ms 0) Automated ∷ ContactorCommand (ms 0) ForceClosed ∷ ContactorCommand (ms 0) Open ∷ power_loss 0 ∷ [])
    (commands 2 ∷ command 0 ∷ [])
    ∷ row 1 (power_on 0 ∷ Measurement (ms 0) (reading 3_300 499 (pos 0) (pos 250)) ∷ []) (failed_mask 254 ∷ failed_count 7 ∷ test 2 ∷ [])
    ∷ row 1 (power_on 0 ∷ current_of 0 (pos 60_000) ∷ current_of 1_000 (neg_ℤ (pos 20_000)) ∷ current_of 2_000 (neg_ℤ (pos 10_000)) ∷ [])
    (charged 20_000_000 ∷ discharged 15_000_000 ∷ [])
    ∷ row 1 (low_cells_under true) (override 1 ∷ tripped 1 ∷ clear 0 ∷ long_term low_cell_trip ∷ short_term low_cell_trip ∷ closed ∷ [])
    ∷ row 1 low_cells_forced (state 3 ∷ command 2 ∷ tripped 1 ∷ open' ∷ [])
    ∷ row 1 over_power_loss (clear 0 ∷ long_term [] ∷ [])
    ∷ row 1 between_after_trip (tripped 0 ∷ short_term (Trip (ms 500) 0 (pos 3_651) ∷ []) ∷ [])
    ∷ row 1 (sessions 0 65) (long_term (session_trips 0 64) ∷ short_term [] ∷ [])
    ∷ row 0 (power_on 0 ∷ []) (battery_type 1 ∷ answers (0 ∷ []) ∷ [])
    ∷ row 1 forced (state 3 ∷ command 2 ∷ override 1 ∷ closed ∷ [])
    ∷ row 1 (forced ++ to_dormant ∷ []) (answers (0 ∷ 0 ∷ 0 ∷ 0 ∷ 0 ∷ 0 ∷ 0 ∷ []) ∷ state 1 ∷ command 0 ∷ override 0 ∷ test 1 ∷ open' ∷ [])
    ∷ row 1 (power_on 0 ∷ current_of 0 (neg_ℤ (pos 1)) ∷ current_of 1 (pos 2) ∷ current_of 4 (neg_ℤ (pos 1)) ∷ []) (charged 1 ∷ discharged 0 ∷ [])
    ∷ row 1 (power_on 0 ∷ current_of 0 (pos 60_000) ∷ power_loss 500 ∷ power_on 500 ∷ current_of 1_000 (pos 60_000) ∷ []) (charged 0 ∷ discharged 0 ∷ [])
    ∷ row 1 (power_on 0 ∷ current_of 0 (neg_ℤ (pos 2_000_000)) ∷ current_of 345_600_000 (neg_ℤ (pos 2_000_000)) ∷ [])
    (charged 0 ∷ discharged 691_200_000_000_000 ∷ [])
    ∷ []
