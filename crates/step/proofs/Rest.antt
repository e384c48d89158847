-- What no call changes of soundness: all of it but the accounts. An accepted call finds it true and leaves it so, a refused one leaves the
-- record.
use mathlib.Core.Path.{◌≡◌, refl, sym, ap, ◌∙◌}
use mathlib.Core.Bool.{Bool}
use mathlib.Core.List.{List, [], ◌∷◌}
use Rattle.rules.specs.declared.calls.Event.{Event}
use Rattle.rules.specs.declared.battery.Record.{Record}
use Rattle.rules.specs.Numbers.{Outcome}
use Rattle.step.specs.Sound.{sound_rest}
use Rattle.step.specs.Refusal.{refusal, refusal_tested}
use Rattle.step.specs.Call.{call, run}
use Rattle.step.proofs.Shaped.{Shaped}
use Rattle.step.proofs.RestCall.{rest_call, shaped_call}

-- ---- a list of calls

pub shaped_run : (r : Record) (es : List Event) → Shaped r → Shaped (run r es)
shaped_run r [] shaped = shaped
shaped_run r (e ∷ es) shaped = shaped_run (call r e).after es (shaped_call r shaped e)

pub rest_run : (r : Record) (es : List Event) → Shaped r → sound_rest (run r es) ≡ sound_rest r
rest_run r [] shaped = refl
rest_run r (e ∷ es) shaped = rest_run (call r e).after es (shaped_call r shaped e) ∙ rest_call r shaped e

-- ---- what a loop keeps: that a flag, tested once, still is the rest of the record it has come to

pub record Tested (rest : Bool) (r : Record) : Type 0 where
  pub is : rest ≡ sound_rest r
  pub shaped : Shaped r

pub tested_call : (rest : Bool) (r : Record) → Tested rest r → (e : Event) (o : Outcome) → o ≡ call r e → Tested rest o.after
tested_call rest r t e o is = rw is (record { is = t.is ∙ sym (rest_call r t.shaped e); shaped = shaped_call r t.shaped e })

-- and what it gets by it: the refusal of a call, from the flag and the live part
pub refusal_tested_lem : (rest : Bool) (r : Record) → rest ≡ sound_rest r → (e : Event) → refusal_tested rest r.live e ≡ refusal r e
refusal_tested_lem rest r is e = ap (λ (b : Bool). refusal_tested b r.live e) is
