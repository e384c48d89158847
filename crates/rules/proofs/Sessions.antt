-- A session of measurements alone: where their times do not fall and stay in the mission, the ledger accepts every one.
use mathlib.Core.Path.{◌≡◌, refl, sym, ap, ◌∙◌}
use mathlib.Core.Bool.{true}
use mathlib.Core.List.{List, [], ◌∷◌, reverse_aux}
use Prim.Native.Nat.{ℕ, ◌+◌, ◌≤◌}
use native.Mathlib.Nat.{add-zero, add_assoc, zero-add}
use borrow.Author.Tests.{le-ltb}
use lib.IntN.{ℤ}
use Rattle.rules.specs.declared.calls.Event.TheVariants.{Measurement, PowerOn}
use Rattle.rules.specs.Quantities.{ms, mission_time}
use Rattle.rules.specs.States.{is_powered}
use Rattle.rules.specs.Refusals.{refusal}
use Rattle.rules.specs.Trips.{Measured, time}
use Rattle.rules.specs.Ledger.{Ledger, Accepted, at_first, refused, accept, if_accepted, entered, ledger_from, accepted_from, ledger, accepted}
use Rattle.rules.specs.Accounts.{increment, account}
use Rattle.rules.specs.Examples.{measurements, session}

abbrev pub Timely : ℕ → List Measured → Type 0
Timely last [] = Unit {0}
Timely last (m ∷ later) = (last ≤ time m) × (time m ≤ mission_time.0) × Timely (time m) later

-- what each measurement adds to an account with the one before it, the first of them with those before
abbrev pub total : (ℤ → ℕ) → List Measured → List Measured → ℕ
total part past [] = 0
total part past (m ∷ later) = (increment part past m).0 + total part (m ∷ past) later

module _ (l : Ledger) (powered : is_powered l.state ≡ true) where
  accepts : (m : Measured) → l.last.0 ≤ time m → time m ≤ mission_time.0 → refused l (Measurement m.at m.reading) ≡ 0
  unfolding refusal
  accepts m from to = rw (le-ltb (time m) l.last.0 from, le-ltb mission_time.0 (time m) to, powered)

measured_from : (l : Ledger) → is_powered l.state ≡ true → (taken : List Measured) → Timely l.last.0 taken
    → (ledger_from l (measurements taken)).measured ≡ reverse_aux taken l.measured
measured_from l powered [] t = refl
measured_from l powered (m ∷ later) t =
    let e = Measurement m.at m.reading in
    ap (λ (n : ℕ). (ledger_from (if_accepted n (accept l e) l) (measurements later)).measured) (accepts l powered m t.0 t.1)
    ∙ measured_from (accept l e) powered later t.2

account_from : (part : ℤ → ℕ) (l : Ledger) → is_powered l.state ≡ true → (past : List Accepted) (taken : List Measured) → Timely l.last.0 taken
    → (account part (accepted_from l past (measurements taken))).0 ≡ (account part past).0 + total part l.measured taken
account_from part l powered past [] t = sym (add-zero (account part past).0)
account_from part l powered past (m ∷ later) t =
    let e = Measurement m.at m.reading in
    ap (λ (n : ℕ). (account part (accepted_from (if_accepted n (accept l e) l) (if_accepted n (entered l e ∷ past) past) (measurements later))).0)
    (accepts l powered m t.0 t.1)
    ∙ account_from part (accept l e) powered (entered l e ∷ past) later t.2
    ∙ add_assoc (account part past).0 (increment part l.measured m).0 (total part (m ∷ l.measured) later)

-- ---- from the power on
module _ (taken : List Measured) (timely : Timely 0 taken) where
  pub measured_in : (ledger (session taken)).measured ≡ reverse_aux taken []
  unfolding refusal
  measured_in = measured_from (accept at_first (PowerOn (ms 0))) refl taken timely

  pub account_in : (part : ℤ → ℕ) → (account part (accepted (session taken))).0 ≡ total part [] taken
  unfolding refusal
  account_in part =
      account_from part (accept at_first (PowerOn (ms 0))) refl (entered at_first (PowerOn (ms 0)) ∷ []) taken timely ∙ zero-add (total part [] taken)
