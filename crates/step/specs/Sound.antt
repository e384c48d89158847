-- Soundness of a record as a test that computes.
use Rattle.std.specs.Prelude.{ℕ, zero, suc, Bool, true, ◌&&◌, List, [], ◌∷◌, leb, ltb, get_or}
use Rattle.rules.specs.declared.units.Milliseconds.{Milliseconds}
use Rattle.rules.specs.Soundness.{Previous}
use Rattle.std.specs.Prelude.{None, Some}
use Rattle.rules.specs.declared.session.Watch.{Watch}
use Rattle.rules.specs.declared.stores.Stores.{Stores}
use Rattle.rules.specs.declared.battery.Live.{Live}
use Rattle.rules.specs.declared.battery.Record.{Record}
use Rattle.rules.specs.Quantities.{◌≤ms◌, mission_time}
use Rattle.rules.specs.Test.{current_in_range}
use Rattle.rules.specs.Soundness.{account_limit}
use Rattle.rules.specs.Lists.{tabulate, all}
use Rattle.rules.specs.Shown.{Span, Idle, Beyond, Within, kept_at}

abbrev pub started_by : Milliseconds → Span → Bool
started_by last Idle = true
started_by last (Beyond start) = start ≤ms last
started_by last (Within start) = start ≤ms last

abbrev pub measured_by : Milliseconds → Previous → Bool
measured_by last None = true
measured_by last (Some (t, i)) = t ≤ms last

abbrev pub current_kept : Previous → Bool
current_kept None = true
current_kept (Some (t, i)) = current_in_range i

-- the protections in the first places are at most 7
abbrev pub below8 : ℕ → List ℕ → Bool
below8 zero protections = true
below8 (suc n) protections = below8 n protections && leb (get_or protections n 0) 7

-- what a power on or a power loss writes anew, at a last time
abbrev pub watch_tests : Milliseconds → Watch → List Bool
watch_tests last w =
    ltb w.mask 8_192
    ∷ measured_by last w.previous
    ∷ current_kept w.previous
    ∷ all (tabulate 8 (λ protection. started_by last (kept_at w protection).span))
    ∷ []

-- the live part, but for its accounts
abbrev pub rest_tests : Live → List Bool
rest_tests l = leb 1 l.battery ∷ leb l.battery 3 ∷ (l.last ≤ms mission_time) ∷ watch_tests l.last l.watch

abbrev pub stores_tests : Stores → List Bool
stores_tests s =
    leb s.long.count 64
    ∷ leb s.short.count 16
    ∷ below8 s.long.count s.long.protections
    ∷ below8 s.short.count s.short.protections
    ∷ []

unfoldable pub rest_live : Live → Bool
rest_live l = all (rest_tests l)

unfoldable pub sound_stores : Stores → Bool
sound_stores s = all (stores_tests s)

-- what no call changes, accepted or refused (proofs/Rest)
abbrev pub sound_rest : Record → Bool
sound_rest r = rest_live r.live && sound_stores r.stores

-- and the accounts, which an accepted call can take past their limit: one that is at it, by charge since a measurement before the last time
unfoldable pub sound_accounts : Live → Bool
sound_accounts l = leb l.tally.charged.0 (account_limit l.last).0 && leb l.tally.discharged.0 (account_limit l.last).0

abbrev pub sound : Record → Bool
sound r = sound_rest r && sound_accounts r.live
