-- The first part of a call: its refusal, what it makes of the live part, and whether it changes the stores.
use Rattle.std.specs.Prelude.{ℕ, zero, suc, Bool, false}
use Rattle.rules.specs.declared.calls.Event.{Event}
use Rattle.rules.specs.declared.stores.Stores.{Stores}
use Rattle.rules.specs.declared.battery.Live.{Live}
use Rattle.rules.specs.Numbers.{number_of}
use Rattle.step.specs.Refusal.{refusal, refusal_tested}
use Rattle.step.specs.Call.{advance_live}
use Rattle.changes.specs.Changes.{changes_stores}
use Rattle.judging.specs.declared.Judged.{Judged}

-- what is answered, the refusal by its number, 0 for none
pub record Judgement : Type 0 where
  pub refusal : ℕ
  pub live : Live
  pub changed : Bool

abbrev pub judgement_of : Judged → Judgement
judgement_of j = record { refusal = number_of j.refusal; live = j.live; changed = j.changed }

abbrev pub judged_by : ℕ → Live → Event → Judgement
judged_by zero l e = record { refusal = 0; live = advance_live e l; changed = changes_stores e l (advance_live e l) }
judged_by (suc n) l e = record { refusal = suc n; live = l; changed = false }

unfoldable pub judged : Live → Stores → Event → Judgement
judged l s e = judged_by (refusal (record { live = l; stores = s }) e) l e

-- the same, where what no call changes of soundness was tested before, with this result
unfoldable pub judged_tested : Bool → Live → Event → Judgement
judged_tested rest l e = judged_by (refusal_tested rest l e) l e
