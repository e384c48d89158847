-- The test `is_closed` decides *closed*, and how it differs between two settings of override. The step's contactor is shown to be this test,
-- so that nothing is decided a second time.
use mathlib.Core.Path.{◌≡◌, refl, sym, subst, ◌∙◌}
use mathlib.Core.Logic.{◌↔◌, ◌⊎◌, inl, inr, ◌≢◌}
use mathlib.Core.Bool.{Bool, true, false, not, ◌&&◌, ◌||◌, true≢false, false≢true}
use mathlib.Core.List.{List}
use Prim.Native.Nat.{ℕ, ◌<◌}
use lib.Dec.{T, eqb}
use borrow.Author.Tests.{eqb-true}
use Rattle.rules.specs.declared.states.State.{State}
use Rattle.rules.specs.declared.states.State.TheVariants.{Unpowered, Dormant, Operational, Maintenance}
use Rattle.rules.specs.declared.calls.Command.{Command}
use Rattle.rules.specs.declared.calls.Command.TheVariants.{Automated, Open, ForceClosed}
use Rattle.rules.specs.Protections.{row_of}
use Rattle.rules.specs.Trips.{Measured}
use Rattle.rules.specs.Ledger.{Ledger, set_control, test_of, TrippedOn, is_tripped_on}
use Rattle.rules.specs.Contactor.{StateAndCommand, PermitsClosing, InForce, AllLiftable, NoneTripped, SomeTripped, Closed, ContactorsDiffer, state_and_command, is_lifted, is_closed}
use Rattle.rules.proofs.Bools.{both, is_true, unless}
use Rattle.rules.proofs.Lists.{all_places, some_place}
use Rattle.rules.proofs.Decide.{is_tripped_lem}

-- ---- test, state and command

passed_is : (taken : List Measured) → T (eqb (test_of taken) 1) ↔ (test_of taken ≡ 1)
passed_is taken = (λ h. eqb-true (test_of taken) 1 ((is_true (eqb (test_of taken) 1)).0 h), λ e. rw e tt)

settings_are : (l : Ledger) → T (state_and_command l.state l.command) ↔ StateAndCommand l
settings_are l = (to l.state refl l.command refl, from)
  where
    to : (s : State) → l.state ≡ s → (c : Command) → l.command ≡ c → T (state_and_command s c) → StateAndCommand l
    to Unpowered e c f h = absurd h
    to Dormant e c f h = absurd h
    to Operational e Automated f h = inl (e, f)
    to Operational e Open f h = absurd h
    to Operational e ForceClosed f h = absurd h
    to Maintenance e Automated f h = absurd h
    to Maintenance e Open f h = absurd h
    to Maintenance e ForceClosed f h = inr (e, f)

    from : StateAndCommand l → T (state_and_command l.state l.command)
    from (inl (e, f)) = rw (e, f) tt
    from (inr (e, f)) = rw (e, f) tt

abbrev permits : Ledger → Bool
permits l = eqb (test_of l.measured) 1 && state_and_command l.state l.command

permits_is : (l : Ledger) → T (permits l) ↔ PermitsClosing l
permits_is l =
    let parts = both (eqb (test_of l.measured) 1) (state_and_command l.state l.command) (passed_is l.measured) (settings_are l) in
    (λ h. record { test = (parts.0 h).0; state_and_command = (parts.0 h).1 }, λ p. parts.1 (p.test, p.state_and_command))

-- ---- the protections

module _ (battery : ℕ) (l : Ledger) where
  abbrev lifted : Bool → Bool
  lifted override = is_lifted battery override (is_tripped_on battery l)

  tripped_is : (protection : ℕ) → T (is_tripped_on battery l protection) ↔ TrippedOn battery l protection
  tripped_is protection = is_tripped_lem (row_of battery protection) l.measured

  -- each tripped protection is liftable with override in force
  abbrev EachLifted : Bool → Type 0
  EachLifted override = (protection : ℕ) → protection < 8 → TrippedOn battery l protection → T override × T (row_of battery protection).liftable

  lifted_is : (override : Bool) → T (lifted override) ↔ EachLifted override
  lifted_is override = (
    λ h protection k t. (held protection).0 (every.0 h protection k) ((tripped_is protection).1 t),
    λ f. every.1 (λ protection k. (held protection).1 (λ t. f protection k ((tripped_is protection).0 t))),
  )
    where
      held : (protection : ℕ) → T (not (is_tripped_on battery l protection) || (override && (row_of battery protection).liftable))
          ↔ (T (is_tripped_on battery l protection) → T override × T (row_of battery protection).liftable)
      held protection = unless (is_tripped_on battery l protection) override (row_of battery protection).liftable

      every : T (lifted override) ↔ ((protection : ℕ) → protection < 8 → T (not (is_tripped_on battery l protection) || (override && (row_of battery protection).liftable)))
      every = all_places 8 (λ protection. not (is_tripped_on battery l protection) || (override && (row_of battery protection).liftable))

  -- in the paper's words
  rule_is : EachLifted l.override ↔ ((AllLiftable battery l × InForce l) ⊎ NoneTripped battery l)
  rule_is = (to l.override refl, from)
    where
      to : (on : Bool) → l.override ≡ on → EachLifted l.override → (AllLiftable battery l × InForce l) ⊎ NoneTripped battery l
      to true e f = inl ((λ protection k t. (f protection k t).1), e)
      to false e f = inr (λ protection k t. subst T e (f protection k t).0)

      from : (AllLiftable battery l × InForce l) ⊎ NoneTripped battery l → EachLifted l.override
      from (inl (every, on)) = λ protection k t. ((is_true l.override).1 on, every protection k t)
      from (inr none) = λ protection k t. absurd (none protection k t)

  pub is_closed_lem : T (is_closed battery l) ↔ Closed battery l
  unfolding is_closed
  is_closed_lem =
      let rule : T (lifted l.override) ↔ ((AllLiftable battery l × InForce l) ⊎ NoneTripped battery l)
      = (λ h. rule_is.0 ((lifted_is l.override).0 h), λ c. (lifted_is l.override).1 (rule_is.1 c)) in
      let parts = both (permits l) (lifted l.override) (permits_is l) rule in
      (λ h. record { permits = (parts.0 h).0; protections = (parts.0 h).1 }, λ c. parts.1 (c.permits, c.protections))

  -- ---- two settings of override

  -- it makes a difference exactly where something is tripped, and all of it liftable
  lifts_more : (lifted true ≢ lifted false) ↔ (SomeTripped battery l × AllLiftable battery l)
  lifts_more = (to (lifted true) refl (lifted false) refl, from)
    where
      clear : (protection : ℕ) → Bool
      clear protection = not (is_tripped_on battery l protection) || (false && (row_of battery protection).liftable)

      was_tripped : (t f : Bool) → (not t || (false && f)) ≡ false → T t
      was_tripped true f e = tt
      was_tripped false f e = absurd (true≢false e)

      to : (x : Bool) → lifted true ≡ x → (y : Bool) → lifted false ≡ y → lifted true ≢ lifted false → SomeTripped battery l × AllLiftable battery l
      to true e true f n = absurd (n (e ∙ sym f))
      to false e false f n = absurd (n (e ∙ sym f))
      to false e true f n = absurd (subst T e ((lifted_is true).1 (λ i k t. absurd ((lifted_is false).0 (subst T (sym f) tt) i k t).0)))
      to true e false f n =
          let found = some_place 8 clear f in
          let i = found.0 in (
            (i, found.1, (tripped_is i).0 (was_tripped (is_tripped_on battery l i) (row_of battery i).liftable found.2)),
            λ i k t. ((lifted_is true).0 (subst T (sym e) tt) i k t).1,
          )

      from : SomeTripped battery l × AllLiftable battery l → lifted true ≢ lifted false
      from ((i, k, t), every) e = ((lifted_is false).0 (subst T e ((lifted_is true).1 (λ j h u. (tt, every j h u)))) i k t).0

  lifted_differ : (x y : Bool) → (lifted x ≢ lifted y) ↔ ((x ≢ y) × SomeTripped battery l × AllLiftable battery l)
  lifted_differ true true = (λ n. absurd (n refl), λ q. absurd (q.0 refl))
  lifted_differ false false = (λ n. absurd (n refl), λ q. absurd (q.0 refl))
  lifted_differ true false = (λ n. (true≢false, (lifts_more.0 n).0, (lifts_more.0 n).1), λ q. lifts_more.1 (q.1, q.2))
  lifted_differ false true =
      (λ n. (false≢true, (lifts_more.0 (λ e. n (sym e))).0, (lifts_more.0 (λ e. n (sym e))).1), λ q e. lifts_more.1 (q.1, q.2) (sym e))

differ_and : (p x y : Bool) → ((p && x) ≢ (p && y)) ↔ (T p × (x ≢ y))
differ_and false x y = (λ n. absurd (n refl), λ q. absurd q.0)
differ_and true x y = (λ n. (tt, n), λ q. q.1)

-- a ledger with another setting of override
abbrev pub with_override : Bool → Ledger → Ledger
with_override on l = set_control l.state l.command on l.last l

-- two ledgers that differ in override alone, the second standing for any with its setting
pub closed_differ : (battery : ℕ) (l m : Ledger)
    → (is_closed battery l ≢ is_closed battery (with_override m.override l)) ↔ ContactorsDiffer battery l m
unfolding is_closed
closed_differ battery l m =
    let both_ways = differ_and (permits l) (lifted battery l l.override) (lifted battery l m.override) in
    let lifts = lifted_differ battery l l.override m.override in (
      λ n.
          let (p, d) = both_ways.0 n in
          let (one, some, every) = lifts.0 d in
          record { just_one = one; permits = (permits_is l).0 p; some = some; all_liftable = every },
      λ d. both_ways.1 ((permits_is l).1 d.permits, lifts.1 (d.just_one, d.some, d.all_liftable)),
    )
