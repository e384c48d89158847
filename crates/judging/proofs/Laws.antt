-- A call on the live part as the code goes through it.
use mathlib.Core.Path.{◌≡◌, refl, sym, ap, ◌∙◌}
use mathlib.Core.Bool.{Bool, true, false, cond, ◌&&◌}
use Prim.Native.Nat.{ℕ, zero, suc}
use native.Mathlib.Omega.{arith}
use Rattle.std.specs.Prelude.{Option, None, Some}
use Rattle.std.specs.Option.{is_some}
use Rattle.rules.specs.declared.refusals.Refusal.{Refusal}
use Rattle.rules.specs.declared.calls.Event.{Event}
use Rattle.rules.specs.declared.stores.Stores.{Stores}
use Rattle.rules.specs.declared.battery.Live.{Live}
use Rattle.rules.specs.Numbers.{refusal_number, number_of}
use Rattle.rules.proofs.Bools.{and_true}
use Rattle.rules.proofs.Injective.{number_injective}
use Rattle.step.specs.Sound.{sound_rest, sound_accounts}
use Rattle.step.specs.Refusal.{refusal_live, refusal_tested}
use Rattle.step.proofs.Rest.{refusal_tested_lem}
use Rattle.advance.specs.Room.{has_room, advance_within}
use Rattle.changes.specs.Changes.{changes_stores}
use Rattle.judging.proofs.Bounds.{room_by}
use Rattle.judging.specs.declared.Judged.{Judged}
use Rattle.judging.specs.Judging.{Judgement, judgement_of, judged_by, judged, judged_tested}

-- ---- with its refusal, by soundness in two parts

module _ (rest : Bool) (l : Live) (e : Event) where
  -- an accepted call finds room
  room : refusal_tested rest l e ≡ 0 → has_room e l ≡ true
  room accepted = go (rest && sound_accounts l) refl accepted
    where
      go : (fine : Bool) → (rest && sound_accounts l) ≡ fine → ◌≡◌ {A = ℕ} (cond fine (refusal_live l e) 5) 0 → has_room e l ≡ true
      go true is z = room_by e l (and_true rest (sound_accounts l) is).1 z
      go false is z = absurd (omega arith)

  -- the answer, put together from what is made of the live part
  module _ (o : Option Refusal) (o-is : number_of o ≡ refusal_tested rest l e) where
    pub of_accepted : is_some o ≡ false → (after : Live) → after ≡ advance_within e l
        → judgement_of (record { refusal = o; live = after; changed = changes_stores e l after }) ≡ judged_tested rest l e
    unfolding judged_tested
    of_accepted none after is = rw is (go o o-is none)
      where
        go : (o : Option Refusal) → number_of o ≡ refusal_tested rest l e → is_some o ≡ false
            → judgement_of (record { refusal = o; live = advance_within e l; changed = changes_stores e l (advance_within e l) }) ≡ judged_tested rest l e
        go None h none = rw (← h, room (sym h)) refl
        go (Some r) h none = absurd (cc)

    pub of_refused : is_some o ≡ true → judgement_of (record { refusal = o; live = l; changed = false }) ≡ judged_tested rest l e
    unfolding judged_tested
    of_refused some = go (number_of o) refl
      where
        go : (n : ℕ) → number_of o ≡ n → ◌≡◌ {A = Judgement} (record { refusal = number_of o; live = l; changed = false }) (judged_tested rest l e)
        go zero h = absurd (let none : o ≡ None = number_injective o None h in let no : is_some o ≡ false = ap is_some none in cc)
        go (suc n) h = rw (← o-is, h) refl

-- no refusal has the number of none
pub is_refused : (x : Refusal) → ¬ (refusal_number x ≡ 0)
is_refused x z = absurd (let none : ◌≡◌ {A = Option Refusal} (Some x) None = number_injective (Some x) None z in cc)

-- no two answers have one judgement
pub judgement_injective : (a b : Judged) → judgement_of a ≡ judgement_of b → a ≡ b
judgement_injective a b e =
    let refusal : a.refusal ≡ b.refusal = number_injective a.refusal b.refusal (ap (λ (j : Judgement). j.refusal) e) in
    λ i. record { refusal = refusal i; live = (e i).live; changed = (e i).changed }

-- with the rest of a record's soundness it is the call on that record
pub judged_tested_lem : (l : Live) (s : Stores) (e : Event) → judged_tested (sound_rest (record { live = l; stores = s })) l e ≡ judged l s e
unfolding judged judged_tested
judged_tested_lem l s e = ap (λ (n : ℕ). judged_by n l e) (refusal_tested_lem _ (record { live = l; stores = s }) refl e)

pub judged_here : (l : Live) (s : Stores) (e : Event) (rest : Bool) → rest ≡ sound_rest (record { live = l; stores = s })
    → (j : Judgement) → j ≡ judged_tested rest l e → j ≡ judged l s e
judged_here l s e rest is j h = h ∙ ap (λ (b : Bool). judged_tested b l e) is ∙ judged_tested_lem l s e
