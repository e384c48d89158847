-- Document 01, "Stores and accounts", its last paragraph, as document 02, S-5, "Charge by the mean current", has it now.
use Rattle.std.specs.Prelude.{ℕ, suc, ◌+◌, ◌/◌, cond, ◌&&◌, List, [], ◌∷◌, ℤ, pos, negsuc, neg_ℤ, ◌*ℤ◌}
use Rattle.rules.specs.declared.units.Milliamperes.{Milliamperes}
use Rattle.rules.specs.declared.units.Milliseconds.{Milliseconds}
use Rattle.rules.specs.declared.units.Charge.{Charge}
use Rattle.rules.specs.declared.calls.Event.{Event}
use Rattle.rules.specs.Quantities.{ma_ms, sum, elapsed}
use Rattle.rules.specs.Calls.{by_kind}
use Rattle.rules.specs.Test.{plausible}
use Rattle.rules.specs.Trips.{Measured}
use Rattle.rules.specs.Ledger.{Ledger, Accepted}

-- "add the two currents, multiply by the elapsed time": twice what flows, in ma·ms, positive on charge
abbrev pub flow : (earlier later : Milliamperes) → (elapsed : Milliseconds) → ℤ
flow earlier later t = (sum earlier later).0 *ℤ pos t.0

-- "halve towards zero": the magnitude is halved and rounded down, the sign stays
abbrev pub halved : ℤ → ℤ
halved (pos n) = pos (n / 2)
halved (negsuc n) = neg_ℤ (pos (suc n / 2))

-- "a positive result joins charged"
abbrev pub positive_part : ℤ → ℕ
positive_part (pos n) = n
positive_part (negsuc n) = 0

-- "the negation of a negative one discharged"
abbrev pub negative_part : ℤ → ℕ
negative_part (pos n) = 0
negative_part (negsuc n) = suc n

-- "For two neighbouring measurements of a session, both plausible": the last of those before, and the new one
abbrev pub increment : (ℤ → ℕ) → List Measured → Measured → Charge
increment part [] now = ma_ms 0
increment part (earlier ∷ past) now =
    let result = halved (flow earlier.reading.current now.reading.current (elapsed earlier.at now.at)) in
    ma_ms (cond (plausible earlier.reading && plausible now.reading) (part result) 0)

-- what a call adds to an account: nothing unless it is a measurement
abbrev pub increment_at : (ℤ → ℕ) → Ledger → Event → Charge
increment_at part before e = by_kind (λ t r. increment part before.measured (record { at = t; reading = r })) (ma_ms 0) (ma_ms 0) (ma_ms 0) e

-- an account over the accepted calls, newest first, of all sessions
abbrev pub account : (ℤ → ℕ) → List Accepted → Charge
account part [] = ma_ms 0
account part (a ∷ past) = ma_ms ((account part past).0 + (increment_at part a.before a.call).0)

abbrev pub charged : List Accepted → Charge
charged past = account positive_part past

abbrev pub discharged : List Accepted → Charge
discharged past = account negative_part past
