-- The exports of both stores after every run of the code, and after every two.
use mathlib.Core.List.{List}
use Prim.Native.Nat.{ℕ}
use Rattle.rules.specs.declared.states.Contactor.{Contactor}
use Rattle.rules.specs.declared.calls.Event.{Event}
use Rattle.rules.specs.declared.battery.Record.{Record}
use Rattle.rules.specs.Shown.{long_entries, short_entries}
use Rattle.rules.specs.Claims.{TwoRuns}
use Rattle.export.specs.Claims.{ExportsAfterEveryList, SameExports, ExportsOfAnyTwoLists}
use Rattle.export.proofs.Allowed.{CodeLong, CodeShort, long_exported, short_exported, exported_alike}
use Rattle.engine.proofs.Chain.{CodeRun, code_after_every_list, code_any_two_lists}

pub exports_after_every_list : ExportsAfterEveryList CodeLong CodeShort CodeRun
exports_after_every_list battery calls given after contactor run =
    let owed = code_after_every_list battery calls given after contactor run in
    record {
      long_term = λ buffer left answer c. rw (← owed.shared.long_term) (long_exported owed.sound c);
      short_term = λ buffer left answer c. rw (← owed.shared.short_term) (short_exported owed.sound c);
    }

-- what two runs share decides what both exports write
pub exports_of_two_runs : (battery : ℕ) (calls₁ calls₂ : List Event) (given₁ given₂ : List ℕ) (after₁ after₂ : Record) (contactor₁ contactor₂ : Contactor)
    → TwoRuns battery calls₁ calls₂ given₁ given₂ after₁ after₂ contactor₁ contactor₂ → SameExports CodeLong CodeShort after₁ after₂
exports_of_two_runs battery calls₁ calls₂ given₁ given₂ after₁ after₂ contactor₁ contactor₂ owed = record {
  long_term = λ buffer left₁ left₂ answer₁ answer₂ c₁ c₂.
      exported_alike (long_entries after₂.stores.long) buffer left₁ left₂ answer₁ answer₂
      (rw (← owed.shared.long_term) (long_exported owed.by_rules₁.sound c₁)) (long_exported owed.by_rules₂.sound c₂);
  short_term = λ buffer left₁ left₂ answer₁ answer₂ c₁ c₂.
      exported_alike (short_entries after₂.stores.short) buffer left₁ left₂ answer₁ answer₂
      (rw (← owed.shared.short_term) (short_exported owed.by_rules₁.sound c₁)) (short_exported owed.by_rules₂.sound c₂);
}

pub exports_of_any_two_lists : ExportsOfAnyTwoLists CodeLong CodeShort CodeRun
exports_of_any_two_lists battery calls₁ calls₂ alike given₁ given₂ after₁ after₂ contactor₁ contactor₂ run₁ run₂ =
    exports_of_two_runs _ _ _ _ _ after₁ after₂ _ _
    (code_any_two_lists battery calls₁ calls₂ alike given₁ given₂ after₁ after₂ contactor₁ contactor₂ run₁ run₂)
