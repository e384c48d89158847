-- A call, accepted or refused, leaves all of soundness but the accounts as it was.
use mathlib.Core.Path.{◌≡◌, refl, sym, ◌∙◌}
use Rattle.rules.specs.declared.calls.Event.{Event}
use Rattle.rules.specs.declared.battery.Record.{Record}
use Rattle.rules.proofs.Bools.{is_true}
use Rattle.step.specs.Sound.{sound_rest}
use Rattle.step.specs.Call.{advance, call}
use Rattle.step.proofs.Shaped.{Shaped}
use Rattle.step.proofs.Carried.{rest_after, shaped_after, either}

module _ (r : Record) (shaped : Shaped r) (e : Event) where
  pub rest_call : sound_rest (call r e).after ≡ sound_rest r
  rest_call =
      either r shaped e (λ q. sound_rest q ≡ sound_rest r) refl
      (λ h rest. (is_true (sound_rest (advance r e))).0 (rest_after r shaped e h rest) ∙ sym ((is_true (sound_rest r)).0 rest))

  pub shaped_call : Shaped (call r e).after
  shaped_call = either r shaped e Shaped shaped (shaped_after r shaped e)
