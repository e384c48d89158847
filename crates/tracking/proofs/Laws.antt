-- The masks that the code makes are those of the eight protections, each tracked by itself.
use mathlib.Core.Path.{◌≡◌, refl, sym, ap, ◌∙◌}
use Rattle.std.proofs.Common.{◌≢◌, below_more}
use Rattle.std.proofs.lemmas.List.{get_or-set_same, get_or-set_other, length-set}
use mathlib.Core.Bool.{Bool, true, false, not, cond, ◌&&◌, ◌||◌}
use mathlib.Core.List.{List}
use Prim.Native.Nat.{ℕ, ◌+◌, ◌-◌, ◌≤◌, ◌<◌}
use native.Mathlib.Omega.{arith}
use lib.Bits.{bit_and, bit_or, or_lt, and_le_l}
use lib.ListN.{get_or, length, set}
use Rattle.rules.specs.declared.units.Milliseconds.{Milliseconds}
use Rattle.rules.specs.Lists.{tabulate}
use Rattle.rules.specs.Quantities.{ms, ◌≤ms◌, elapsed}
use Rattle.rules.specs.Protections.{row_of, mask_below}
use Rattle.rules.specs.Shown.{Span, Idle, Beyond, Within, bit_of, span_of}
use Rattle.rules.proofs.Bits.{mask_below_lem, bit_of_mask, mask_is, bit_and_lem, bit_or_lem, bit_not, bit_of_none}
use Rattle.rules.proofs.Lists.{at_place, tabulate_ext, tabulate_places}
use Rattle.step.specs.Track.{span_at, tripped_at, is_beyond, is_within, start_or}
use Rattle.tracking.specs.declared.Kept.{Kept}
use Rattle.due.specs.Due.{is_due, due_all}
use Rattle.due.proofs.Laws.{due_none}
use Rattle.tracking.specs.Masks.{since_all, state_of, tracked_at, tracked_by}

-- ---- one protection, by its bits

-- within, where it isn't beyond
abbrev inside : Bool → Bool → Bool
inside b w = w && not b

-- the span goes on: it was beyond, or within, and is so again
abbrev going : Bool → Bool → Bool → Bool → Bool
going b w was_beyond was_within = (b && was_beyond) || (inside b w && (was_within && not was_beyond))

abbrev begun : Bool → Bool → Bool → Bool → Bool
begun b w was_beyond was_within = (b || inside b w) && not (going b w was_beyond was_within)

-- a clear one may trip where it is beyond, a tripped one may be released where it is within
abbrev asked : Bool → Bool → Bool → Bool
asked b w was = (b && not was) || (inside b w && was)

beyond_one : (b w : Bool) (t : Milliseconds) (s : Span) → is_beyond (span_at b w t s) ≡ b
beyond_one true w t Idle = refl
beyond_one true w t (Beyond start) = refl
beyond_one true w t (Within start) = refl
beyond_one false true t Idle = refl
beyond_one false true t (Beyond start) = refl
beyond_one false true t (Within start) = refl
beyond_one false false t s = refl

within_one : (b w : Bool) (t : Milliseconds) (s : Span) → is_within (span_at b w t s) ≡ inside b w
within_one true true t Idle = refl
within_one true true t (Beyond start) = refl
within_one true true t (Within start) = refl
within_one true false t Idle = refl
within_one true false t (Beyond start) = refl
within_one true false t (Within start) = refl
within_one false true t Idle = refl
within_one false true t (Beyond start) = refl
within_one false true t (Within start) = refl
within_one false false t s = refl

since_one : (b w was_beyond was_within : Bool) (t old : Milliseconds)
    → cond (begun b w was_beyond was_within) t old ≡ start_or old (span_at b w t (span_of was_beyond was_within old))
since_one true w true was_within t old = refl
since_one true true false true t old = refl
since_one true true false false t old = refl
since_one true false false true t old = refl
since_one true false false false t old = refl
since_one false true true true t old = refl
since_one false true true false t old = refl
since_one false true false true t old = refl
since_one false true false false t old = refl
since_one false false was_beyond was_within t old = refl

-- tripped, from what is due of what is asked
abbrev trips : Bool → Bool → Bool → Bool → Bool
trips b w was due = (due && b) || (was && not (due && inside b w))

trips_beyond : (w was lasted : Bool) → trips true w was (asked true w was && lasted) ≡ lasted || was
trips_beyond true true true = refl
trips_beyond true true false = refl
trips_beyond true false true = refl
trips_beyond true false false = refl
trips_beyond false true true = refl
trips_beyond false true false = refl
trips_beyond false false true = refl
trips_beyond false false false = refl

trips_within : (was lasted : Bool) → trips false true was (asked false true was && lasted) ≡ not lasted && was
trips_within true true = refl
trips_within true false = refl
trips_within false true = refl
trips_within false false = refl

trips_between : (was : Bool) → (was && true) ≡ was
trips_between true = refl
trips_between false = refl

trip_one : (hold release t old : Milliseconds) (b w : Bool) (s : Span) (was : Bool)
    → trips b w was (asked b w was && (cond b hold release ≤ms elapsed (start_or old (span_at b w t s)) t)) ≡ tripped_at hold release t (span_at b w t s) was
trip_one hold release t old true w Idle was = trips_beyond w was (hold ≤ms elapsed t t)
trip_one hold release t old true w (Beyond start) was = trips_beyond w was (hold ≤ms elapsed start t)
trip_one hold release t old true w (Within start) was = trips_beyond w was (hold ≤ms elapsed t t)
trip_one hold release t old false true Idle was = trips_within was (release ≤ms elapsed t t)
trip_one hold release t old false true (Beyond start) was = trips_within was (release ≤ms elapsed t t)
trip_one hold release t old false true (Within start) was = trips_within was (release ≤ms elapsed start t)
trip_one hold release t old false false s was = trips_between was

-- ---- nothing to do

pub since_none : (begun : ℕ) (t : Milliseconds) (since : List Milliseconds) → length since ≡ 8 → begun ≡ 0 → since ≡ since_all begun t since
unfolding since_all
since_none begun t since places e =
    tabulate_places 8 since (ms 0) places
    ∙ tabulate_ext 8 (λ n. get_or since n (ms 0)) (λ n. cond (bit_of begun n) t (get_or since n (ms 0))) (λ n h. rw (e, bit_of_none n))

-- ---- the starts, one after the other: those before a place are as they will be, the others as they were

abbrev pub Begun : ℕ → Milliseconds → List Milliseconds → List Milliseconds → ℕ → Type 0
Begun begun t since now place =
    (length now ≡ 8)
    × ((n : ℕ) → n < place → get_or now n (ms 0) ≡ cond (bit_of begun n) t (get_or since n (ms 0)))
    × ((n : ℕ) → place ≤ n → get_or now n (ms 0) ≡ get_or since n (ms 0))

module _ (begun : ℕ) (t : Milliseconds) (since now : List Milliseconds) (place : ℕ) (before : Begun begun t since now place) where
  pub next_begun : (start : Milliseconds) → place < 8 → start ≡ cond (bit_of begun place) t (get_or now place (ms 0))
      → Begun begun t since (set now place start) (place + 1)
  next_begun start h is =
      let below : place < length now = omega (arith, h, before.0) in (
        length-set now place start ∙ before.0,
        below_more _ _
            (λ n l. let other : n ≢ place = omega (arith, l) in get_or-set_other now place n start (ms 0) other ∙ before.1 n l)
            (get_or-set_same now place start (ms 0) below ∙ is ∙ ap (cond (bit_of begun place) t) (before.2 place (omega arith))),
        λ n l. let other : n ≢ place = omega (arith, l) in get_or-set_other now place n start (ms 0) other ∙ before.2 n (omega (arith, l)),
      )

  pub begun_all : place ≡ 8 → now ≡ since_all begun t since
  unfolding since_all
  begun_all all =
      tabulate_places 8 now (ms 0) before.0
      ∙ tabulate_ext 8 (λ n. get_or now n (ms 0)) (λ n. cond (bit_of begun n) t (get_or since n (ms 0))) (λ n h. before.1 n (omega (arith, h, all)))

-- ---- all eight, by their masks

module _ (b w : ℕ) (t : Milliseconds) (k : Kept) (hb : b < 256) (hw : w < 256) (hs : k.beyond < 256) (ht : k.tripped < 256) where
  abbrev inside_m : ℕ
  inside_m = bit_and w (255 - b)

  abbrev going_m : ℕ
  going_m = bit_or (bit_and b k.beyond) (bit_and inside_m (bit_and k.within (255 - k.beyond)))

  abbrev begun_m : ℕ
  begun_m = bit_and (bit_or b inside_m) (255 - going_m)

  abbrev since_m : List Milliseconds
  since_m = since_all begun_m t k.since

  abbrev asked_m : ℕ
  asked_m = bit_or (bit_and b (255 - k.tripped)) (bit_and inside_m k.tripped)

  abbrev due_m : ℕ
  due_m = due_all b asked_m t since_m

  abbrev tripped_m : ℕ
  tripped_m = bit_or (bit_and due_m b) (bit_and k.tripped (255 - bit_and due_m inside_m))

  inside_below : inside_m < 256
  inside_below = omega (arith, and_le_l w (255 - b))

  going_below : going_m < 256
  going_below =
      or_lt 8 (bit_and b k.beyond) (bit_and inside_m (bit_and k.within (255 - k.beyond)))
      (omega (arith, and_le_l b k.beyond))
      (omega (arith, inside_below, and_le_l inside_m (bit_and k.within (255 - k.beyond))))

  due_below : due_m < 256
  unfolding due_all
  due_below = mask_below_lem (is_due b asked_m t since_m) 8

  -- the span of protection n after
  abbrev after : ℕ → Span
  after n = span_at (bit_of b n) (bit_of w n) t (state_of k n).span

  module _ (n : ℕ) (h : n < 8) where
    inside_bit : bit_of inside_m n ≡ inside (bit_of b n) (bit_of w n)
    inside_bit = rw (bit_and_lem w (255 - b) n, bit_not 8 b n hb h)

    going_bit : bit_of going_m n ≡ going (bit_of b n) (bit_of w n) (bit_of k.beyond n) (bit_of k.within n)
    going_bit =
        rw (
          bit_or_lem (bit_and b k.beyond) (bit_and inside_m (bit_and k.within (255 - k.beyond))) n,
          bit_and_lem b k.beyond n,
          bit_and_lem inside_m (bit_and k.within (255 - k.beyond)) n,
          inside_bit,
          bit_and_lem k.within (255 - k.beyond) n,
          bit_not 8 k.beyond n hs h,
        )

    begun_bit : bit_of begun_m n ≡ begun (bit_of b n) (bit_of w n) (bit_of k.beyond n) (bit_of k.within n)
    begun_bit =
        rw (
          bit_and_lem (bit_or b inside_m) (255 - going_m) n,
          bit_or_lem b inside_m n,
          inside_bit,
          bit_not 8 going_m n going_below h,
          going_bit,
        )

    since_bit : cond (bit_of begun_m n) t (get_or k.since n (ms 0)) ≡ start_or (get_or k.since n (ms 0)) (after n)
    since_bit =
        rw begun_bit
        (since_one (bit_of b n) (bit_of w n) (bit_of k.beyond n) (bit_of k.within n) t (get_or k.since n (ms 0)))

    since_place : get_or since_m n (ms 0) ≡ start_or (get_or k.since n (ms 0)) (after n)
    unfolding since_all
    since_place = at_place 8 (λ m. cond (bit_of begun_m m) t (get_or k.since m (ms 0))) (ms 0) n h ∙ since_bit

    asked_bit : bit_of asked_m n ≡ asked (bit_of b n) (bit_of w n) (bit_of k.tripped n)
    asked_bit =
        rw (
          bit_or_lem (bit_and b (255 - k.tripped)) (bit_and inside_m k.tripped) n,
          bit_and_lem b (255 - k.tripped) n,
          bit_not 8 k.tripped n ht h,
          bit_and_lem inside_m k.tripped n,
          inside_bit,
        )

    due_bit : bit_of due_m n
        ≡ asked (bit_of b n) (bit_of w n) (bit_of k.tripped n)
        && (cond (bit_of b n) (row_of 1 n).hold (row_of 1 n).release ≤ms elapsed (start_or (get_or k.since n (ms 0)) (after n)) t)
    unfolding due_all
    due_bit =
        bit_of_mask 8 (is_due b asked_m t since_m) n h
        ∙ (rw (asked_bit, since_place))

    tripped_bit : bit_of tripped_m n ≡ (tracked_at b w t k n).tripped
    tripped_bit =
        rw (
          bit_or_lem (bit_and due_m b) (bit_and k.tripped (255 - bit_and due_m inside_m)) n,
          bit_and_lem due_m b n,
          bit_and_lem k.tripped (255 - bit_and due_m inside_m) n,
          bit_not 8 (bit_and due_m inside_m) n (omega (arith, and_le_l due_m inside_m, due_below)) h,
          bit_and_lem due_m inside_m n,
          inside_bit,
          due_bit,
        )
        (trip_one (row_of 1 n).hold (row_of 1 n).release t (get_or k.since n (ms 0)) (bit_of b n) (bit_of w n) (state_of k n).span (bit_of k.tripped n))

  pub track_is : record { tripped = tripped_m; beyond = b; within = inside_m; since = since_m } ≡ tracked_by b w t k
  unfolding tracked_by since_all
  track_is =
      let tripped : tripped_m ≡ mask_below (λ n. (tracked_at b w t k n).tripped) 8 =
      mask_is 8 tripped_m (λ n. (tracked_at b w t k n).tripped)
      (or_lt 8 (bit_and due_m b) (bit_and k.tripped (255 - bit_and due_m inside_m))
      (omega (arith, and_le_l due_m b, due_below))
      (omega (arith, and_le_l k.tripped (255 - bit_and due_m inside_m))))
      tripped_bit in
      let beyond : b ≡ mask_below (λ n. is_beyond (after n)) 8 =
      mask_is 8 b (λ n. is_beyond (after n)) hb (λ n h. sym (beyond_one (bit_of b n) (bit_of w n) t (state_of k n).span)) in
      let within : inside_m ≡ mask_below (λ n. is_within (after n)) 8 =
      mask_is 8 inside_m (λ n. is_within (after n)) inside_below (λ n h. inside_bit n h ∙ sym (within_one (bit_of b n) (bit_of w n) t (state_of k n).span)) in
      let since : since_m ≡ tabulate 8 (λ n. start_or (get_or k.since n (ms 0)) (after n)) =
      tabulate_ext 8 (λ n. cond (bit_of begun_m n) t (get_or k.since n (ms 0))) (λ n. start_or (get_or k.since n (ms 0)) (after n)) since_bit in
      rw (← tripped, ← beyond, ← within, ← since)

-- ---- a measurement within all limits leaves what is settled as it is: every protection in a within span, and none tripped

abbrev settled : List Milliseconds → Kept
settled since = record { tripped = 0; beyond = 0; within = 255; since = since }

settled_at : (t : Milliseconds) (since : List Milliseconds) → length since ≡ 8 → settled since ≡ tracked_by 0 255 t (settled since)
settled_at t since places =
    let none : 0 ≡ due_all 0 0 t (since_all 0 t since) = due_none 0 0 t (since_all 0 t since) refl in
    let same : since ≡ since_all 0 t since = since_none 0 t since places refl in
    let tracked = track_is 0 255 t (settled since) (omega arith) (omega arith) (omega arith) (omega arith) in
    ap settled same ∙ (rw (← none) at tracked)

pub settled_is : (t : Milliseconds) (k : Kept) → length k.since ≡ 8 → k.tripped ≡ 0 → k.beyond ≡ 0 → k.within ≡ 255 → k ≡ tracked_by 0 255 t k
settled_is t k places tripped beyond within =
    let is : k ≡ settled k.since = rw (tripped, beyond, within) in
    is ∙ settled_at t k.since places ∙ ap (λ (x : Kept). tracked_by 0 255 t x) (sym is)
