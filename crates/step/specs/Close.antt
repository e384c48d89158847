-- The contactor of a record.
use Rattle.std.specs.Prelude.{ℕ, Bool, true, false, cond, ◌&&◌}
use Rattle.rules.specs.declared.states.TestResult.{TestResult}
use Rattle.rules.specs.declared.states.TestResult.TheVariants.{NotRun, Passed, Failed}
use Rattle.rules.specs.declared.states.Contactor.{Contactor}
use Rattle.rules.specs.declared.states.Contactor.TheVariants.{Open as IsOpen, Closed as IsClosed}
use Rattle.rules.specs.declared.battery.Live.{Live}
use Rattle.rules.specs.Contactor.{state_and_command, is_lifted}
use Rattle.rules.specs.Shown.{bit_of}

abbrev pub has_passed : TestResult → Bool
has_passed NotRun = false
has_passed Passed = true
has_passed Failed = false

-- no protection of a mask of those tripped holds the contactor open: each is clear, or liftable with override on
abbrev pub lifted : ℕ → Bool → ℕ → Bool
lifted battery overriding tripped = is_lifted battery overriding (bit_of tripped)

unfoldable pub closes : Live → Bool
closes l =
    (has_passed l.watch.test && state_and_command l.control.state l.control.command)
    && lifted l.battery l.control.overriding l.watch.tripped

abbrev pub contactor_of : Live → Contactor
contactor_of l = cond (closes l) IsClosed IsOpen
