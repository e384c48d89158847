-- The two parts of a call together are the call.
use mathlib.Core.Path.{◌≡◌, refl, sym, ap, ◌∙◌}
use mathlib.Core.Bool.{Bool, true, false, cond}
use Prim.Native.Nat.{ℕ, zero, suc}
use Rattle.rules.specs.declared.calls.Event.{Event}
use Rattle.rules.specs.declared.stores.Stores.{Stores}
use Rattle.rules.specs.declared.battery.Record.{Record}
use Rattle.rules.specs.declared.refusals.Refusal.{Refusal}
use Rattle.rules.specs.Numbers.{Outcome, refusal_number}
use Rattle.step.specs.Refusal.{refusal}
use Rattle.step.specs.Call.{advance_live, advance_stores, advance, answer, call}
use Rattle.changes.specs.Changes.{changes_stores}
use Rattle.changes.proofs.Unchanged.{stores_kept}
use Rattle.judging.specs.Judging.{Judgement, judged_by, judged}
use Rattle.judging.specs.Joined.{joined}
use Rattle.judging.proofs.Laws.{is_refused}

joined_is : (r : Record) (e : Event) → joined r e (judged r.live r.stores e) ≡ call r e
unfolding judged
joined_is r e = go (refusal r e)
  where
    whole : Stores → Outcome
    whole s = record { refusal = 0; after = record { live = advance_live e r.live; stores = s } }

    written : (b : Bool) → changes_stores e r.live (advance_live e r.live) ≡ b
        → joined r e (judged_by 0 r.live e) ≡ answer 0 (advance r e) r
    written true h = rw h refl
    written false h = rw h (ap (λ (s : Stores). whole s) (sym (stores_kept e r.live (advance_live e r.live) r.stores h)))

    go : (n : ℕ) → joined r e (judged_by n r.live e) ≡ answer n (advance r e) r
    go zero = written (changes_stores e r.live (advance_live e r.live)) refl
    go (suc n) = refl

module _ (r : Record) (e : Event) (j : Judgement) (is : j ≡ judged r.live r.stores e) where
  pub applied : joined r e j ≡ call r e
  applied = ap (joined r e) is ∙ joined_is r e

  pub changed : j.changed ≡ true → (w : Stores) → w ≡ advance_stores e r.live j.live r.stores
      → ◌≡◌ {A = Outcome} (record { refusal = j.refusal; after = record { live = j.live; stores = w } }) (call r e)
  changed h w w-is = ap (λ (s : Stores). put s) (w-is ∙ sym by) ∙ applied
    where
      put : Stores → Outcome
      put s = record { refusal = j.refusal; after = record { live = j.live; stores = s } }

      by : cond j.changed (advance_stores e r.live j.live r.stores) r.stores ≡ advance_stores e r.live j.live r.stores
      by = rw h refl

  pub kept : j.changed ≡ false → ◌≡◌ {A = Outcome} (record { refusal = j.refusal; after = record { live = j.live; stores = r.stores } }) (call r e)
  kept h = ap (λ (s : Stores). put s) (sym by) ∙ applied
    where
      put : Stores → Outcome
      put s = record { refusal = j.refusal; after = record { live = j.live; stores = s } }

      by : cond j.changed (advance_stores e r.live j.live r.stores) r.stores ≡ r.stores
      by = rw h refl

  -- the same for a loop that keeps the stores apart, once its ways meet
  pub unchanged : j.changed ≡ false → (s : Stores) → s ≡ r.stores
      → ◌≡◌ {A = Outcome} (record { refusal = j.refusal; after = record { live = j.live; stores = s } }) (call r e)
  unchanged h s same = rw same (kept h)

  -- a refused call leaves the record
  pub refused : (x : Refusal) → j.refusal ≡ refusal_number x → ◌≡◌ {A = Outcome} (record { refusal = refusal_number x; after = r }) (call r e)
  refused x number = go (refusal r e) (ap (λ (o : Outcome). o.refusal) applied)
    where
      go : (n : ℕ) → j.refusal ≡ (answer n (advance r e) r).refusal → ◌≡◌ {A = Outcome} (record { refusal = refusal_number x; after = r }) (answer n (advance r e) r)
      go zero h = absurd (is_refused x (sym number ∙ h))
      go (suc n) h = rw (← number, h) refl
