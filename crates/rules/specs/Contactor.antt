-- Document 01, "The contactor", on the ledger of a run's type and list.
use Rattle.std.specs.Prelude.{ℕ, ◌<◌, ◌≡◌, Bool, true, false, not, ◌&&◌, ◌||◌, ◌⊎◌, ◌≢◌, T, eqb}
use Rattle.rules.specs.declared.states.State.{State}
use Rattle.rules.specs.declared.states.State.TheVariants.{Unpowered, Dormant, Operational, Maintenance}
use Rattle.rules.specs.declared.calls.Command.{Command}
use Rattle.rules.specs.declared.calls.Command.TheVariants.{Automated, Open, ForceClosed}
use Rattle.rules.specs.Lists.{tabulate, all}
use Rattle.rules.specs.Protections.{row_of}
use Rattle.rules.specs.Ledger.{Ledger, test_of, TrippedOn, is_tripped_on}

-- "the state is Operational with command Automated, or Maintenance with command Force closed"
abbrev pub StateAndCommand : Ledger → Type 0
StateAndCommand l = ((l.state ≡ Operational) × (l.command ≡ Automated)) ⊎ ((l.state ≡ Maintenance) × (l.command ≡ ForceClosed))

-- document 01: "State, command and test permit closing when the first two of these three conditions hold."
pub record PermitsClosing (l : Ledger) : Type 0 where
  pub test : test_of l.measured ≡ 1
  pub state_and_command : StateAndCommand l

-- document 01: "Override is in force while the ledger has it on."
abbrev pub InForce : Ledger → Type 0
InForce l = l.override ≡ true

abbrev pub AllLiftable : ℕ → Ledger → Type 0
AllLiftable battery l = (protection : ℕ) → protection < 8 → TrippedOn battery l protection → T (row_of battery protection).liftable

abbrev pub NoneTripped : ℕ → Ledger → Type 0
NoneTripped battery l = (protection : ℕ) → protection < 8 → ¬ TrippedOn battery l protection

abbrev pub SomeTripped : ℕ → Ledger → Type 0
SomeTripped battery l = (protection : ℕ) × (protection < 8) × TrippedOn battery l protection

-- "Closed exactly when the test has passed; and the state is Operational with command Automated, or Maintenance with command Force
-- closed; and every tripped protection is liftable with override in force, or none is tripped."
pub record Closed (battery : ℕ) (l : Ledger) : Type 0 where
  pub permits : PermitsClosing l
  pub protections : (AllLiftable battery l × InForce l) ⊎ NoneTripped battery l

-- ---- the same as a test that computes, for the program's text; proofs/Closing has that the two agree

abbrev pub state_and_command : State → Command → Bool
state_and_command Unpowered c = false
state_and_command Dormant c = false
state_and_command Operational Automated = true
state_and_command Operational Open = false
state_and_command Operational ForceClosed = false
state_and_command Maintenance Automated = false
state_and_command Maintenance Open = false
state_and_command Maintenance ForceClosed = true

-- no protection holds the contactor open: each is clear, or liftable with override in force
abbrev pub is_lifted : ℕ → Bool → (ℕ → Bool) → Bool
is_lifted battery override is_tripped =
    all (tabulate 8 (λ protection. not (is_tripped protection) || (override && (row_of battery protection).liftable)))

unfoldable pub is_closed : ℕ → Ledger → Bool
is_closed battery l =
    (eqb (test_of l.measured) 1 && state_and_command l.state l.command) && is_lifted battery l.override (is_tripped_on battery l)

-- ---- two runs

-- 00-mission.md, demand 3: "override is in force in just one run, state, command and test permit closing, and one or more protections
-- are tripped, all of them liftable"; the parts that the runs share are said of the first
pub record ContactorsDiffer (battery : ℕ) (first second : Ledger) : Type 0 where
  pub just_one : first.override ≢ second.override
  pub permits : PermitsClosing first
  pub some : SomeTripped battery first
  pub all_liftable : AllLiftable battery first
