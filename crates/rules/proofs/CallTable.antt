-- What the table of a call can answer, what an accepted call's time is, and when a request is accepted.
use mathlib.Core.Path.{◌≡◌, refl}
use mathlib.Core.Bool.{Bool, true, false, cond}
use Prim.Native.Nat.{ℕ}
use native.Mathlib.Omega.{arith}
use borrow.Author.Tests.{ltb-false, le-ltb}
use Rattle.rules.specs.declared.states.State.{State}
use Rattle.rules.specs.declared.units.Milliseconds.{Milliseconds}
use Rattle.rules.specs.declared.calls.Request.{Request}
use Rattle.rules.specs.declared.calls.Event.{Event}
use Rattle.rules.specs.declared.calls.Event.TheVariants.{StateRequest}
use Rattle.rules.specs.Quantities.{◌<ms◌, mission_time}
use Rattle.rules.specs.Calls.{time_of}
use Rattle.rules.specs.States.{is_powered, request_allowed}
use Rattle.rules.specs.Refusals.{is_wrong_power, is_forbidden_request, is_forbidden_other, refusal, InTime, CallAnswer}
use Rattle.rules.specs.Refusals.{CallAnswer.accepted, CallAnswer.time_below_last, CallAnswer.time_above_mission, CallAnswer.wrong_power, CallAnswer.request_not_allowed, CallAnswer.other_not_allowed}

-- what the table answers is one of its numbers
first_listed : (a b c d f : Bool) → CallAnswer (cond a 6 (cond b 7 (cond c 8 (cond d 9 (cond f 10 0)))))
first_listed true b c d f = time_below_last
first_listed false true c d f = time_above_mission
first_listed false false true d f = wrong_power
first_listed false false false true f = request_not_allowed
first_listed false false false false true = other_not_allowed
first_listed false false false false false = accepted

pub table_listed : (s : State) (last : Milliseconds) (n : ℕ) (e : Event) → CallAnswer (refusal s last n e)
unfolding refusal
table_listed s last n e =
    first_listed (time_of e <ms last) (mission_time <ms time_of e) (is_wrong_power s e) (is_forbidden_request s e) (is_forbidden_other s n e)

-- and never 5
first_not_5 : (a b c d f : Bool) → ◌≡◌ {A = ℕ} (cond a 6 (cond b 7 (cond c 8 (cond d 9 (cond f 10 0))))) 5 → ⊥
first_not_5 true b c d f h = omega arith
first_not_5 false true c d f h = omega arith
first_not_5 false false true d f h = omega arith
first_not_5 false false false true f h = omega arith
first_not_5 false false false false true h = omega arith
first_not_5 false false false false false h = omega arith

pub table_not_5 : (s : State) (last : Milliseconds) (n : ℕ) (e : Event) → refusal s last n e ≡ 5 → ⊥
unfolding refusal
table_not_5 s last n e =
    first_not_5 (time_of e <ms last) (mission_time <ms time_of e) (is_wrong_power s e) (is_forbidden_request s e) (is_forbidden_other s n e)

-- what an accepted call's time is
pub in_time : (s : State) (last : Milliseconds) (n : ℕ) (e : Event) → refusal s last n e ≡ 0 → InTime last (time_of e)
unfolding refusal
in_time s last n e z = go (time_of e <ms last) refl (mission_time <ms time_of e) refl
  where
    go : (a : Bool) → (time_of e <ms last) ≡ a → (b : Bool) → (mission_time <ms time_of e) ≡ b → InTime last (time_of e)
    go true h b k = let no_way : ◌≡◌ {A = ℕ} 6 0 = rw h at z in absurd (omega arith)
    go false h true k = let no_way : ◌≡◌ {A = ℕ} 7 0 = rw (h, k) at z in absurd (omega arith)
    go false h false k = record { not_below_last = ltb-false _ _ h; not_above_mission = ltb-false _ _ k }

-- a call in time meets neither the condition of 6 nor that of 7
pub neither_6_nor_7 : {last t : Milliseconds} → InTime last t → ((t <ms last) ≡ false) × ((mission_time <ms t) ≡ false)
neither_6_nor_7 h = (le-ltb _ _ h.not_below_last, le-ltb _ _ h.not_above_mission)

-- a request that the map in force allows is accepted in time
pub request_accepted : (s : State) (last : Milliseconds) (n : ℕ) (t : Milliseconds) (q : Request)
    → is_powered s ≡ true → request_allowed s q ≡ true → InTime last t → refusal s last n (StateRequest t q) ≡ 0
unfolding refusal
request_accepted s last n t q on allowed h = rw ((neither_6_nor_7 h).0, (neither_6_nor_7 h).1, on, allowed) refl
