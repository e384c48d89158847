-- Document 02, S-3, of the step. A request leaves a sound record sound, so that the second of the two requests gets the answer of the first.
use mathlib.Core.Path.{◌≡◌, refl, sym, ap, ◌∙◌}
use mathlib.Core.Bool.{Bool, true, false, cond, and-false}
use Prim.Native.Nat.{ℕ, ◌≤◌}
use native.Mathlib.Omega.{arith}
use Rattle.rules.specs.declared.units.Milliseconds.{Milliseconds}
use Rattle.rules.specs.Soundness.{Previous}
use Rattle.std.specs.Prelude.{None, Some}
use Rattle.rules.specs.declared.states.State.TheVariants.{Dormant, Maintenance}
use Rattle.rules.specs.declared.states.Contactor.{Contactor}
use Rattle.rules.specs.declared.calls.Request.{Request}
use Rattle.rules.specs.declared.calls.Request.TheVariants.{Dormant as ToDormant, Operational as ToOperational}
use Rattle.rules.specs.declared.calls.Event.{Event}
use Rattle.rules.specs.declared.calls.Event.TheVariants.{StateRequest}
use Rattle.rules.specs.declared.battery.Live.{Live}
use Rattle.rules.specs.declared.battery.Record.{Record}
use Rattle.rules.specs.Calls.{time_of}
use Rattle.rules.specs.Numbers.{contactor_number}
use Rattle.rules.specs.Refusals.{InTime}
use Rattle.rules.specs.Ledger.{if_accepted}
use Rattle.rules.specs.Shown.{Span, Idle, Beyond, Within, kept_of}
use Rattle.rules.specs.Soundness.{StartedBy, MeasuredBy, Sound}
use Rattle.rules.specs.StateMap.{state_of, LeftByRequest, ShortcutAccepted, TwoSteps, AsBefore, ShortcutOpens, ByWiderMap}
use Rattle.rules.proofs.Bools.{is_true}
use Rattle.rules.proofs.CallTable.{in_time}
use Rattle.rules.proofs.StateMap.{still_accepted, shortcut_gets_0, still_nine, answers_widened, Takes, in_two, same_refusal, second_accepted}
use Rattle.step.specs.Sound.{sound}
use Rattle.step.specs.Refusal.{refusal, refusal_live}
use Rattle.step.specs.Close.{has_passed, closes, contactor_of}
use Rattle.step.specs.Call.{advance}
use Rattle.step.proofs.Sounds.{sound_is}
use Rattle.step.proofs.Claims.{StepCalls, number_is, after_is, on_every_record}

-- ---- what was sound at the last time is sound at a later one

started_later : (s : Span) (last t : Milliseconds) → last.0 ≤ t.0 → StartedBy last s → StartedBy t s
started_later Idle last t h by = tt
started_later (Beyond start) last t h by = omega (arith, h, by)
started_later (Within start) last t h by = omega (arith, h, by)

measured_later : (p : Previous) (last t : Milliseconds) → last.0 ≤ t.0 → MeasuredBy last p → MeasuredBy t p
measured_later None last t h by = tt
measured_later (Some (at, i)) last t h by = omega (arith, h, by)

module _ (r : Record) (t : Milliseconds) (q : Request) where
  pub request_sound : Sound r → InTime r.live.last t → Sound (advance r (StateRequest t q))
  request_sound s h = record {
    battery = s.battery;
    last_time = h.not_above_mission;
    long_count = s.long_count;
    short_count = s.short_count;
    long_protections = s.long_protections;
    short_protections = s.short_protections;
    mask = s.mask;
    charged = omega (arith, s.charged, h.not_below_last);
    discharged = omega (arith, s.discharged, h.not_below_last);
    spans = λ protection p. started_later (kept_of r protection).span r.live.last t h.not_below_last (s.spans protection p);
    previous = measured_later r.live.watch.previous r.live.last t h.not_below_last s.previous;
    current = s.current;
  }

-- ---- the one request, and the two

takes : (r : Record) (e : Event) (given : ℕ) (after : Record) → StepCalls r e given after → Takes refusal advance r e given after
takes r e given after (g, a) = (g ∙ number_is (refusal r e) (advance r e) r, a ∙ after_is (refusal r e) (advance r e) r)

-- an accepted call leaves what the step goes on to
advanced : (r : Record) (e : Event) (given : ℕ) (after : Record) → StepCalls r e given after → given ≡ 0 → after ≡ advance r e
advanced r e given after c z =
    let (g, a) = takes r e given after c in
    a ∙ ap (λ (n : ℕ). if_accepted n (advance r e) r) (sym g ∙ z)

-- and is one on a sound record, by the table
of_accepted : (b : Bool) (n : ℕ) → cond b n 5 ≡ 0 → (b ≡ true) × (n ≡ 0)
of_accepted true n z = (refl, z)
of_accepted false n z = absurd (omega (arith, z))

module _ (r : Record) (m : state_of r ≡ Maintenance) (t : Milliseconds) where
  same_number : refusal r (StateRequest t ToOperational) ≡ refusal r (StateRequest t ToDormant)
  same_number = ap (λ (n : ℕ). cond (sound r) n 5) (same_refusal (state_of r) r.live.last r.live.tally.commands t m)

  then_accepted : refusal r (StateRequest t ToOperational) ≡ 0 → refusal (advance r (StateRequest t ToOperational)) (StateRequest t ToDormant) ≡ 0
  then_accepted z =
      let (is_sound, by_table) = of_accepted (sound r) (refusal_live r.live (StateRequest t ToOperational)) z in
      let h = in_time (state_of r) r.live.last r.live.tally.commands (StateRequest t ToOperational) by_table in
      let still = request_sound r t ToOperational ((sound_is r).0 ((is_true (sound r)).1 is_sound)) h in
      rw ((is_true (sound (advance r (StateRequest t ToOperational)))).0 ((sound_is (advance r (StateRequest t ToOperational))).1 still))
      (second_accepted (state_of r) r.live.last r.live.tally.commands t by_table)

  twice : advance (advance r (StateRequest t ToOperational)) (StateRequest t ToDormant) ≡ advance r (StateRequest t ToDormant)
  twice = rw m refl

two_steps : TwoSteps state_of StepCalls
two_steps r m t given after c given₁ between c₁ given₂ after₂ c₂ =
    in_two refusal advance r t (same_number r m t) (then_accepted r m t) (twice r m t)
    given after (takes r (StateRequest t ToDormant) given after c)
    given₁ between (takes r (StateRequest t ToOperational) given₁ between c₁)
    given₂ after₂ (takes between (StateRequest t ToDormant) given₂ after₂ c₂)

-- ---- what an accepted request leaves, of whichever map

request_leaves : (r : Record) (t : Milliseconds) (q : Request) (given : ℕ) (after : Record) → StepCalls r (StateRequest t q) given after
    → given ≡ 0 → LeftByRequest r t q after
request_leaves r t q given after c z =
    rw (advanced r (StateRequest t q) given after c z)
    (record { state = refl; command = refl; override = refl; last = refl; battery = refl; watch = refl; tally = refl; stores = refl })

shortcut_accepted : ShortcutAccepted StepCalls
shortcut_accepted r e given after c s is h =
    let zero = shortcut_gets_0 StepCalls on_every_record r e given after c s is h in
    (zero, request_leaves r (time_of e) ToDormant given after (rw is.request at c) zero)

as_before : AsBefore StepCalls
as_before r t q given after c s z =
    let by_table = (on_every_record r (StateRequest t q) given after c).by_table s in
    let zero = by_table ∙ still_accepted (state_of r) r.live.last r.live.tally.commands t q z in
    (zero, request_leaves r t q given after c zero)

-- ---- the contactor of a record in Dormant is open

dormant_opens : (l : Live) → l.control.state ≡ Dormant → contactor_number (contactor_of l) ≡ 0
unfolding closes
dormant_opens l d = rw (d, and-false (has_passed l.watch.test)) refl

abbrev pub StepHas : Record → Contactor → Type 0
StepHas r contactor = contactor ≡ contactor_of r.live

shortcut_opens : ShortcutOpens StepCalls StepHas
shortcut_opens r e given after contactor c has is z =
    rw (has, advanced r e given after c z, is.request) (dormant_opens (advance r (StateRequest (time_of e) ToDormant)).live refl)

pub by_wider_map : ByWiderMap StepCalls StepHas
by_wider_map = record {
  shortcut_accepted = shortcut_accepted;
  two_steps = two_steps;
  as_before = as_before;
  still_nine = still_nine StepCalls on_every_record;
  shortcut_opens = shortcut_opens;
  answers_widened = answers_widened StepCalls on_every_record;
}
