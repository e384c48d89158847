-- The step's contactor is the rules' test `is_closed` on the ledger that the record shows; what that decides, and how it differs between
-- two runs, is rules!Closing's.
use mathlib.Core.Path.{◌≡◌, refl, ap, ◌∙◌}
use mathlib.Core.Logic.{◌↔◌, ◌≢◌}
use mathlib.Core.Bool.{Bool, true, false, not, cond, ◌&&◌, ◌||◌}
use mathlib.Core.List.{List}
use Prim.Native.Nat.{ℕ, ◌<◌}
use native.Mathlib.Omega.{arith}
use lib.Dec.{T, eqb}
use Rattle.rules.specs.declared.states.TestResult.{TestResult}
use Rattle.rules.specs.declared.states.TestResult.TheVariants.{NotRun, Passed, Failed}
use Rattle.rules.specs.declared.states.Contactor.TheVariants.{Open as IsOpen, Closed as IsClosed}
use Rattle.rules.specs.declared.battery.Live.{Live}
use Rattle.rules.specs.declared.battery.Record.{Record}
use Rattle.rules.specs.Lists.{all}
use Rattle.rules.specs.Numbers.{test_number, contactor_number}
use Rattle.rules.specs.Protections.{row_of}
use Rattle.rules.specs.Ledger.{Ledger, Accepted, is_tripped_on}
use Rattle.rules.specs.Contactor.{Closed, ContactorsDiffer, is_lifted, is_closed}
use Rattle.rules.specs.Shown.{bit_of}
use Rattle.rules.proofs.Lists.{tabulate_ext}
use Rattle.rules.proofs.Closing.{is_closed_lem, with_override, closed_differ}
use Rattle.step.specs.Close.{has_passed, closes, contactor_of}
use Rattle.step.proofs.Shows.{Shows}

passed_is : (t : TestResult) → has_passed t ≡ eqb (test_number t) 1
passed_is NotRun = refl
passed_is Passed = refl
passed_is Failed = refl

lifted_is : (battery : ℕ) (on : Bool) (f g : ℕ → Bool) → ((i : ℕ) → i < 8 → f i ≡ g i) → is_lifted battery on f ≡ is_lifted battery on g
lifted_is battery on f g same =
    ap all (tabulate_ext 8 _ _ (λ i h. ap (λ (b : Bool). not b || (on && (row_of battery i).liftable)) (same i h)))

-- a record with another setting of override
abbrev pub overridden : Bool → Live → Live
overridden on l = record {
  battery = l.battery;
  last = l.last;
  control = record { state = l.control.state; command = l.control.command; overriding = on };
  watch = l.watch;
  tally = l.tally;
}

module _ (r : Record) (l : Ledger) (past : List Accepted) (k : Shows r l past) where
  -- with any setting of override, in the record and in the ledger
  closes_is : (on : Bool) → closes (overridden on r.live) ≡ is_closed r.live.battery (with_override on l)
  unfolding closes is_closed
  closes_is on =
      rw (passed_is r.live.watch.test, k.watch.test, k.control.state, k.control.command, lifted_is r.live.battery on (bit_of r.live.watch.tripped) (is_tripped_on r.live.battery l) (λ i h. (k.watch.protections i h).tripped))
      refl

  pub same_closed : closes r.live ≡ is_closed r.live.battery l
  same_closed = closes_is r.live.control.overriding ∙ ap (λ (on : Bool). is_closed r.live.battery (with_override on l)) k.control.override

  pub closed_is : (contactor_number (contactor_of r.live) ≡ 1) ↔ Closed r.live.battery l
  closed_is = rw same_closed (go (is_closed r.live.battery l) (is_closed_lem r.live.battery l))
    where
      go : (b : Bool) → T b ↔ Closed r.live.battery l → (contactor_number (cond b IsClosed IsOpen) ≡ 1) ↔ Closed r.live.battery l
      go true x = (λ e. x.0 tt, λ c. refl)
      go false x = (λ e. absurd (omega arith), λ c. absurd (x.1 c))

  pub contactors_differ : (q : Record) (m : Ledger) → q.live ≡ overridden m.override r.live
      → (contactor_number (contactor_of r.live) ≢ contactor_number (contactor_of q.live)) ↔ ContactorsDiffer r.live.battery l m
  contactors_differ q m e =
      rw (e, same_closed, closes_is m.override)
      (go (is_closed r.live.battery l) (is_closed r.live.battery (with_override m.override l)) (closed_differ r.live.battery l m))
    where
      go : (x y : Bool) → (x ≢ y) ↔ ContactorsDiffer r.live.battery l m
          → (contactor_number (cond x IsClosed IsOpen) ≢ contactor_number (cond y IsClosed IsOpen)) ↔ ContactorsDiffer r.live.battery l m
      go true true d = (λ n. absurd (n refl), λ c. absurd (d.1 c refl))
      go false false d = (λ n. absurd (n refl), λ c. absurd (d.1 c refl))
      go true false d = (λ n. d.0 (λ e. n (ap (λ (b : Bool). contactor_number (cond b IsClosed IsOpen)) e)), λ c e. omega arith)
      go false true d = (λ n. d.0 (λ e. n (ap (λ (b : Bool). contactor_number (cond b IsClosed IsOpen)) e)), λ c e. omega arith)
