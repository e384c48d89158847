-- The accounts as the code goes through them.
use mathlib.Core.Path.{◌≡◌, refl}
use mathlib.Core.Bool.{Bool, true, false, cond}
use Prim.Native.Nat.{ℕ, ◌+◌}
use native.Mathlib.Nat.{add-zero}
use denote.Enum.Bare.{sameb}
use Rattle.rules.specs.declared.units.Milliamperes.{Milliamperes}
use Rattle.rules.specs.declared.units.Milliseconds.{Milliseconds}
use Rattle.rules.specs.declared.units.Charge.{Charge}
use Rattle.rules.specs.declared.sensors.Reading.{Reading}
use Rattle.rules.specs.contracts.states.TestResult.{the_type}
use Rattle.rules.specs.declared.states.TestResult.TheVariants.{Passed, Failed}
use Rattle.rules.specs.Soundness.{Previous}
use Rattle.std.specs.Prelude.{None, Some}
use Rattle.rules.specs.declared.session.Watch.{Watch}
use Rattle.rules.specs.declared.battery.Tally.{Tally}
use Rattle.rules.specs.Quantities.{ma_ms, elapsed}
use Rattle.rules.specs.Test.{plausible as is_plausible}
use Rattle.rules.specs.Accounts.{flow, halved, positive_part, negative_part}
use Rattle.step.specs.Charge.{charge}
use Rattle.step.specs.Track.{observe}

module _ (previous : Previous) (plausible : Bool) (t : Milliseconds) (i : Milliamperes) (n : Tally) where
  pub charged : (start : Milliseconds) (earlier : Milliamperes) (d : Milliseconds) (a b : Charge) → previous ≡ Some (start, earlier) → plausible ≡ true
      → d ≡ elapsed start t → a ≡ ma_ms (positive_part (halved (flow earlier i d))) → b ≡ ma_ms (negative_part (halved (flow earlier i d)))
      → ◌≡◌ {A = Tally} (record { commands = n.commands; charged = ma_ms (n.charged.0 + a.0); discharged = ma_ms (n.discharged.0 + b.0) })
      (charge previous plausible t i n)
  unfolding charge
  charged start earlier d a b e p d-is a-is b-is = rw (e, p, a-is, b-is, d-is) refl

  pub not_charged : (start : Milliseconds) (earlier : Milliamperes) → previous ≡ Some (start, earlier) → plausible ≡ false → n ≡ charge previous plausible t i n
  unfolding charge
  not_charged start earlier e p = simp (e, p, add-zero)

  pub no_neighbour : previous ≡ None → n ≡ charge previous plausible t i n
  unfolding charge
  no_neighbour e = simp (e, add-zero)

-- the test of a measurement, compared as the code does, says whether it is plausible
pub passed_plausible : (battery : ℕ) (t : Milliseconds) (r : Reading) (w : Watch) → sameb the_type (observe battery t r w).test Passed ≡ is_plausible r
unfolding observe
passed_plausible battery t r w = go (is_plausible r)
  where
    go : (b : Bool) → sameb the_type (cond b Passed Failed) Passed ≡ b
    go true = refl
    go false = refl
