-- Demand 3, of every two runs of the code over two lists alike in all but the on or off values of their override calls: every clause is a
-- named part of rules:Claims.TwoRuns, in the demand's order, and what the runs share of rules:Shared.Agree.
use mathlib.Core.List.{List}
use Prim.Native.Nat.{ℕ}
use Rattle.rules.specs.declared.states.Contactor.{Contactor}
use Rattle.rules.specs.declared.calls.Event.{Event}
use Rattle.rules.specs.declared.battery.Record.{Record}
use Rattle.rules.specs.Alike.{Alike}
use Rattle.rules.specs.Claims.{type_or1, AnyTwoLists}
use Rattle.export.specs.Claims.{StoresExported, SameExports}
use Rattle.export.proofs.Allowed.{CodeLong, CodeShort}
use Rattle.engine.proofs.Chain.{CodeRun, code_any_two_lists}
use Rattle.demands.proofs.Exports.{exports_after_every_list, exports_of_any_two_lists}

pub two_runs : AnyTwoLists CodeRun
two_runs = code_any_two_lists

module _
    (battery : ℕ)
    (calls₁ calls₂ : List Event)
    (alike : Alike calls₁ calls₂)
    (given₁ given₂ : List ℕ)
    (after₁ after₂ : Record)
    (contactor₁ contactor₂ : Contactor)
    (run₁ : CodeRun battery calls₁ given₁ after₁ contactor₁)
    (run₂ : CodeRun battery calls₂ given₂ after₂ contactor₂) where
  -- the fault stores as the exports write them: the same answer and the same bytes, whatever the buffer
  pub same_exports : SameExports CodeLong CodeShort after₁ after₂
  same_exports = exports_of_any_two_lists battery calls₁ calls₂ alike given₁ given₂ after₁ after₂ contactor₁ contactor₂ run₁ run₂

  -- "each as document 01 lays it down for either list"
  pub exported_for_the_first : StoresExported CodeLong CodeShort (type_or1 battery) calls₁ after₁
  exported_for_the_first = exports_after_every_list battery calls₁ given₁ after₁ contactor₁ run₁

  pub exported_for_the_second : StoresExported CodeLong CodeShort (type_or1 battery) calls₂ after₂
  exported_for_the_second = exports_after_every_list battery calls₂ given₂ after₂ contactor₂ run₂
