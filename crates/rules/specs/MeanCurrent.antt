-- Document 02, S-5, "Charge by the mean current", of an engine: what one call more makes of the accounts. The rule is in specs/Accounts.
use Rattle.std.specs.Prelude.{ℕ, ◌+◌, ◌≡◌, List, [], ◌∷◌, ◌++◌, T}
use Rattle.rules.specs.declared.units.Milliseconds.{Milliseconds}
use Rattle.rules.specs.declared.units.Charge.{Charge}
use Rattle.rules.specs.declared.sensors.Reading.{Reading}
use Rattle.rules.specs.declared.states.Contactor.{Contactor}
use Rattle.rules.specs.declared.calls.Event.{Event}
use Rattle.rules.specs.declared.calls.Event.TheVariants.{Measurement}
use Rattle.rules.specs.declared.battery.Record.{Record}
use Rattle.rules.specs.Quantities.{ma_ms, elapsed}
use Rattle.rules.specs.Test.{plausible}
use Rattle.rules.specs.Trips.{Measured}
use Rattle.rules.specs.Ledger.{ledger, refused}
use Rattle.rules.specs.Accounts.{flow, halved, positive_part, negative_part}
use Rattle.rules.specs.Claims.{Engine}

-- two runs of one battery type: through a list, and through the same with one call more
pub record OneMore (engine : Engine) (battery : ℕ) (calls : List Event) (e : Event) (before after : Record) : Type 0 where
  pub answers₁ : List ℕ
  pub answers₂ : List ℕ
  pub contactor₁ : Contactor
  pub contactor₂ : Contactor
  pub run₁ : engine battery calls answers₁ before contactor₁
  pub run₂ : engine battery (calls ++ e ∷ []) answers₂ after contactor₂

-- what joins each account
pub record Grown (gained lost : Charge) (before after : Record) : Type 0 where
  pub charged : after.live.tally.charged ≡ ma_ms (before.live.tally.charged.0 + gained.0)
  pub discharged : after.live.tally.discharged ≡ ma_ms (before.live.tally.discharged.0 + lost.0)

-- an accepted measurement beside the session's last one, both plausible
pub record PlausibleNeighbours (calls : List Event) (earlier : Measured) (t : Milliseconds) (r : Reading) : Type 0 where
  pub past : List Measured
  pub newest : (ledger calls).measured ≡ earlier ∷ past
  pub earlier_plausible : T (plausible earlier.reading)
  pub later_plausible : T (plausible r)
  pub accepted : refused (ledger calls) (Measurement t r) ≡ 0

-- "For two neighbouring measurements of a session, both plausible, add the two currents, multiply by the elapsed time, halve towards zero; a
-- positive result joins charged, the negation of a negative one discharged."
abbrev pub NeighboursJoin : Engine → Type 0
NeighboursJoin engine =
    (battery : ℕ) (calls : List Event) (earlier : Measured) (t : Milliseconds) (r : Reading) (before after : Record)
    → PlausibleNeighbours calls earlier t r → OneMore engine battery calls (Measurement t r) before after
    → let result = halved (flow earlier.reading.current r.current (elapsed earlier.at t)) in
    Grown (ma_ms (positive_part result)) (ma_ms (negative_part result)) before after

-- and nothing else joins them: no other call, no refused one, no measurement without such a neighbour
abbrev pub NothingElseJoins : Engine → Type 0
NothingElseJoins engine =
    (battery : ℕ) (calls : List Event) (e : Event) (before after : Record)
    → ((earlier : Measured) (t : Milliseconds) (r : Reading) → e ≡ Measurement t r → ¬ PlausibleNeighbours calls earlier t r)
    → OneMore engine battery calls e before after → Grown (ma_ms 0) (ma_ms 0) before after
