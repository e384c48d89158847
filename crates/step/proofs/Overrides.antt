-- Records that are equal but for override stay so through every call, and answer alike, whatever the on or off values of override calls.
use mathlib.Core.Path.{◌≡◌, refl, sym, ap, ap₂, ◌∙◌}
use mathlib.Core.Bool.{Bool, false}
use mathlib.Core.List.{List, ◌∷◌}
use Prim.Native.Nat.{ℕ, zero, suc}
use Rattle.rules.specs.declared.units.Milliseconds.{Milliseconds}
use Rattle.rules.specs.declared.calls.Event.{Event}
use Rattle.rules.specs.declared.calls.Event.TheVariants.{Measurement, PowerOn, PowerLoss, ContactorCommand, StateRequest, BattleOverride, ClearLongTerm}
use Rattle.rules.specs.declared.battery.Record.{Record}
use Rattle.rules.specs.Alike.{Alike, none, same, switched}
use Rattle.step.specs.Sound.{rest_live, sound_accounts}
use Rattle.rules.specs.Refusals.{refusal as refusal_by_table}
use Rattle.step.specs.Refusal.{refusal}
use Rattle.step.specs.Call.{advance, answer, call, run, answers}
use Rattle.step.proofs.Closing.{overridden}

-- the record as if override didn't exist
abbrev pub erase : Record → Record
erase r = record { live = overridden false r.live; stores = r.stores }

-- ---- an accepted call

erase_advance : (r : Record) (e : Event) → erase (advance r e) ≡ erase (advance (erase r) e)
erase_advance r (Measurement t m) = refl
erase_advance r (PowerOn t) = refl
erase_advance r (PowerLoss t) = refl
erase_advance r (ContactorCommand t c) = refl
erase_advance r (StateRequest t q) = refl
erase_advance r (BattleOverride t on) = refl
erase_advance r (ClearLongTerm t) = refl

erase_answer : (n : ℕ) (a b r q : Record) → erase a ≡ erase b → erase r ≡ erase q → erase (answer n a r).after ≡ erase (answer n b q).after
erase_answer zero a b r q h k = h
erase_answer (suc n) a b r q h k = k

answer_refusal : (n : ℕ) (a b r q : Record) → (answer n a r).refusal ≡ (answer n b q).refusal
answer_refusal zero a b r q = refl
answer_refusal (suc n) a b r q = refl

-- refusal doesn't look at override
refusal_erase : (r : Record) (e : Event) → refusal r e ≡ refusal (erase r) e
unfolding rest_live sound_accounts refusal_by_table
refusal_erase r e = refl

-- ---- one call

after_erase : (r : Record) (e : Event) → erase (call r e).after ≡ erase (call (erase r) e).after
after_erase r e = rw (← refusal_erase r e) (erase_answer (refusal r e) (advance r e) (advance (erase r) e) r (erase r) (erase_advance r e) refl)

answer_erase : (r : Record) (e : Event) → (call r e).refusal ≡ (call (erase r) e).refusal
answer_erase r e = rw (← refusal_erase r e) (answer_refusal (refusal r e) (advance r e) (advance (erase r) e) r (erase r))

pub after_same : (r q : Record) (e : Event) → erase r ≡ erase q → erase (call r e).after ≡ erase (call q e).after
after_same r q e h = after_erase r e ∙ ap (λ (x : Record). erase (call x e).after) h ∙ sym (after_erase q e)

pub answer_same : (r q : Record) (e : Event) → erase r ≡ erase q → (call r e).refusal ≡ (call q e).refusal
answer_same r q e h = answer_erase r e ∙ ap (λ (x : Record). (call x e).refusal) h ∙ sym (answer_erase q e)

-- ---- an override call with either value, on one record

refusal_switch : (r : Record) (t : Milliseconds) (x y : Bool) → refusal r (BattleOverride t x) ≡ refusal r (BattleOverride t y)
unfolding refusal_by_table
refusal_switch r t x y = refl

after_switch : (r : Record) (t : Milliseconds) (x y : Bool) → erase (call r (BattleOverride t x)).after ≡ erase (call r (BattleOverride t y)).after
after_switch r t x y = rw (refusal_switch r t x y)
    (erase_answer (refusal r (BattleOverride t y)) (advance r (BattleOverride t x)) (advance r (BattleOverride t y)) r r refl refl)

answer_switch : (r : Record) (t : Milliseconds) (x y : Bool) → (call r (BattleOverride t x)).refusal ≡ (call r (BattleOverride t y)).refusal
answer_switch r t x y = rw (refusal_switch r t x y)
    (answer_refusal (refusal r (BattleOverride t y)) (advance r (BattleOverride t x)) (advance r (BattleOverride t y)) r r)

-- ---- two lists alike, from two records equal but for override

pub alike_run : {a b : List Event} (r q : Record) → Alike a b → erase r ≡ erase q → erase (run r a) ≡ erase (run q b)
alike_run r q none h = h
alike_run r q (same e l) h = alike_run (call r e).after (call q e).after l (after_same r q e h)
alike_run r q (switched t x y l) h =
    alike_run (call r (BattleOverride t x)).after (call q (BattleOverride t y)).after l (after_same r q (BattleOverride t x) h ∙ after_switch q t x y)

pub alike_answers : {a b : List Event} (r q : Record) → Alike a b → erase r ≡ erase q → answers r a ≡ answers q b
alike_answers r q none h = refl
alike_answers r q (same e l) h =
    ap₂ ◌∷◌ (answer_same r q e h) (alike_answers (call r e).after (call q e).after l (after_same r q e h))
alike_answers r q (switched t x y l) h =
    ap₂ ◌∷◌ (answer_same r q (BattleOverride t x) h ∙ answer_switch q t x y)
    (alike_answers (call r (BattleOverride t x)).after (call q (BattleOverride t y)).after l (after_same r q (BattleOverride t x) h ∙ after_switch q t x y))
