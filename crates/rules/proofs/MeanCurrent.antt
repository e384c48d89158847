-- An engine that meets the claims adds to the accounts what document 02, S-5 says of two neighbours, and nothing else.
use mathlib.Core.Path.{◌≡◌, refl, sym, ap, ◌∙◌}
use mathlib.Core.List.{List, [], ◌∷◌, ◌++◌}
use Prim.Native.Nat.{ℕ, zero, suc, ◌+◌}
use native.Mathlib.Nat.{add-zero}
use lib.IntN.{ℤ}
use Rattle.rules.specs.declared.units.Milliseconds.{Milliseconds}
use Rattle.rules.specs.declared.units.Charge.{Charge}
use Rattle.rules.specs.declared.sensors.Reading.{Reading}
use Rattle.rules.specs.declared.calls.Event.{Event}
use Rattle.rules.specs.declared.calls.Event.TheVariants.{Measurement, PowerOn, PowerLoss, ContactorCommand, StateRequest, BattleOverride, ClearLongTerm}
use Rattle.rules.specs.declared.battery.Record.{Record}
use Rattle.rules.specs.Quantities.{ma_ms, elapsed}
use Rattle.rules.specs.Trips.{Measured}
use Rattle.rules.specs.Ledger.{Ledger, Accepted, at_first, refused, enter, if_accepted, entered, ledger_from, accepted_from, ledger, accepted}
use Rattle.rules.specs.Accounts.{flow, halved, positive_part, negative_part, increment, increment_at, account}
use Rattle.rules.specs.Claims.{Engine, AfterEveryList}
use Rattle.rules.specs.MeanCurrent.{OneMore, Grown, PlausibleNeighbours, NeighboursJoin, NothingElseJoins}
use Rattle.rules.proofs.Flow.{both_plausible, not_both}

-- ---- the rule at one call more
module _ (e : Event) where
  accepted_more : (l : Ledger) (past : List Accepted) (es : List Event)
      → accepted_from l past (es ++ e ∷ [])
      ≡ if_accepted (refused (ledger_from l es) e) (entered (ledger_from l es) e ∷ accepted_from l past es) (accepted_from l past es)
  accepted_more l past [] = refl
  accepted_more l past (x ∷ es) = accepted_more (enter l x) (if_accepted (refused l x) (entered l x ∷ past) past) es

  module _ (part : ℤ → ℕ) where
    -- what the call adds: nothing where it is refused
    abbrev adds : Ledger → ℕ
    adds l = if_accepted (refused l e) (increment_at part l e).0 0

    account_more : (calls : List Event) → account part (accepted (calls ++ e ∷ [])) ≡ ma_ms ((account part (accepted calls)).0 + adds (ledger calls))
    account_more calls = ap (account part) (accepted_more at_first [] calls) ∙ go (refused (ledger calls) e)
      where
        go : (n : ℕ) → account part (if_accepted n (entered (ledger calls) e ∷ accepted calls) (accepted calls))
            ≡ ma_ms ((account part (accepted calls)).0 + if_accepted n (increment_at part (ledger calls) e).0 0)
        go zero = refl
        go (suc n) = ap ma_ms (sym (add-zero (account part (accepted calls)).0))

-- ---- two neighbours, and anything else
module _ (part : ℤ → ℕ) (calls : List Event) where
  pair_adds : (earlier : Measured) (t : Milliseconds) (r : Reading) → PlausibleNeighbours calls earlier t r
      → adds (Measurement t r) part (ledger calls) ≡ part (halved (flow earlier.reading.current r.current (elapsed earlier.at t)))
  pair_adds earlier t r n =
      let added = both_plausible part earlier n.past (record { at = t; reading = r }) n.earlier_plausible n.later_plausible in
      rw (n.accepted, n.newest) (ap (λ (c : Charge). c.0) added)

  abbrev NoNeighbours : Event → Type 0
  NoNeighbours e = (earlier : Measured) (t : Milliseconds) (r : Reading) → e ≡ Measurement t r → ¬ PlausibleNeighbours calls earlier t r

  unmeasured : (e : Event) → if_accepted {A = ℕ} (refused (ledger calls) e) 0 0 ≡ 0
  unmeasured e = go (refused (ledger calls) e)
    where
      go : (n : ℕ) → if_accepted {A = ℕ} n 0 0 ≡ 0
      go zero = refl
      go (suc n) = refl

  measured : (t : Milliseconds) (r : Reading) → NoNeighbours (Measurement t r) → (n : ℕ) → refused (ledger calls) (Measurement t r) ≡ n
      → (ms : List Measured) → (ledger calls).measured ≡ ms → if_accepted n (increment part ms (record { at = t; reading = r })).0 0 ≡ 0
  measured t r alone (suc n) refuses ms is = refl
  measured t r alone zero accepts [] is = refl
  measured t r alone zero accepts (earlier ∷ past) is =
      ap (λ (c : Charge). c.0)
      (not_both part earlier past (record { at = t; reading = r })
      (λ both. alone earlier t r refl (record { past = past; newest = is; earlier_plausible = both.0; later_plausible = both.1; accepted = accepts })))

  nothing_adds : (e : Event) → NoNeighbours e → adds e part (ledger calls) ≡ 0
  nothing_adds (Measurement t r) alone = measured t r alone _ refl _ refl
  nothing_adds (PowerOn t) alone = unmeasured (PowerOn t)
  nothing_adds (PowerLoss t) alone = unmeasured (PowerLoss t)
  nothing_adds (ContactorCommand t c) alone = unmeasured (ContactorCommand t c)
  nothing_adds (StateRequest t q) alone = unmeasured (StateRequest t q)
  nothing_adds (BattleOverride t on) alone = unmeasured (BattleOverride t on)
  nothing_adds (ClearLongTerm t) alone = unmeasured (ClearLongTerm t)

-- ---- of an engine
module _ (engine : Engine) (claims : AfterEveryList engine) where
  joined : (battery : ℕ) (calls : List Event) (e : Event) (before after : Record) (gained lost : ℕ) → adds e positive_part (ledger calls) ≡ gained
      → adds e negative_part (ledger calls) ≡ lost → OneMore engine battery calls e before after → Grown (ma_ms gained) (ma_ms lost) before after
  joined battery calls e before after gained lost a b m =
      let owed₁ = (claims battery calls _ _ _ m.run₁).shared in
      let owed₂ = (claims battery (calls ++ e ∷ []) _ _ _ m.run₂).shared in
      record {
        charged = owed₂.charged ∙ account_more e positive_part calls ∙ rw (owed₁.charged, a) refl;
        discharged = owed₂.discharged ∙ account_more e negative_part calls ∙ rw (owed₁.discharged, b) refl;
      }

  pub neighbours_join : NeighboursJoin engine
  neighbours_join battery calls earlier t r before after n =
      joined battery calls (Measurement t r) before after _ _ (pair_adds positive_part calls earlier t r n) (pair_adds negative_part calls earlier t r n)

  pub nothing_else_joins : NothingElseJoins engine
  nothing_else_joins battery calls e before after alone =
      joined battery calls e before after _ _ (nothing_adds positive_part calls e alone) (nothing_adds negative_part calls e alone)
