-- What is kept of a protection, once the states of all eight are written anew, is the state that was written; so after a measurement it is
-- what one protection becomes.
use mathlib.Core.Path.{◌≡◌, refl, ap}
use Prim.Native.Nat.{ℕ, ◌<◌}
use lib.ListN.{get_or}
use Rattle.rules.specs.declared.units.Milliseconds.{Milliseconds}
use Rattle.rules.specs.declared.sensors.Reading.{Reading}
use Rattle.rules.specs.declared.session.Watch.{Watch}
use Rattle.rules.specs.Quantities.{ms}
use Rattle.rules.specs.Protections.{row_of}
use Rattle.rules.specs.Shown.{Span, Idle, Beyond, Within, ProtectionState, span_of, kept_at}
use Rattle.rules.proofs.Bits.{bit_of_mask, mask_same}
use Rattle.rules.proofs.Lists.{at_place, tabulate_ext}
use Rattle.step.specs.Track.{is_beyond, is_within, start_or, keeping, track_one, observe}

span_back : (old : Milliseconds) (s : Span) → span_of (is_beyond s) (is_within s) (start_or old s) ≡ s
span_back old Idle = refl
span_back old (Beyond start) = refl
span_back old (Within start) = refl

pub kept_after : (state : ℕ → ProtectionState) (w : Watch) (n : ℕ) → n < 8 → kept_at (keeping state w) n ≡ state n
unfolding keeping
kept_after state w n h =
    rw (
      bit_of_mask 8 (λ i. is_beyond (state i).span) n h,
      bit_of_mask 8 (λ i. is_within (state i).span) n h,
      bit_of_mask 8 (λ i. (state i).tripped) n h,
      at_place 8 (λ i. start_or (get_or w.since i (ms 0)) (state i).span) (ms 0) n h,
      span_back (get_or w.since n (ms 0)) (state n).span,
    )

pub keeping_same : (f g : ℕ → ProtectionState) (w : Watch) → ((n : ℕ) → n < 8 → f n ≡ g n) → keeping f w ≡ keeping g w
unfolding keeping
keeping_same f g w h =
    let tripped = mask_same 8 (λ n. (f n).tripped) (λ n. (g n).tripped) (λ n k. ap (λ (s : ProtectionState). s.tripped) (h n k)) in
    let beyond = mask_same 8 (λ n. is_beyond (f n).span) (λ n. is_beyond (g n).span) (λ n k. ap (λ (s : ProtectionState). is_beyond s.span) (h n k)) in
    let within = mask_same 8 (λ n. is_within (f n).span) (λ n. is_within (g n).span) (λ n k. ap (λ (s : ProtectionState). is_within s.span) (h n k)) in
    let since = tabulate_ext 8 (λ n. start_or (get_or w.since n (ms 0)) (f n).span) (λ n. start_or (get_or w.since n (ms 0)) (g n).span)
    (λ n k. ap (λ (s : ProtectionState). start_or (get_or w.since n (ms 0)) s.span) (h n k)) in
    rw (tripped, beyond, within, since)

pub kept_observed : (battery : ℕ) (t : Milliseconds) (r : Reading) (w : Watch) (n : ℕ) → n < 8
    → kept_at (observe battery t r w) n ≡ track_one (row_of battery n) t r (kept_at w n)
unfolding observe
kept_observed battery t r w n h = kept_after (λ i. track_one (row_of battery i) t r (kept_at w i)) w n h
