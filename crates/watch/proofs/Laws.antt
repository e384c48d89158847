-- The masks of a measurement's sides give what the table's rows give; a calm measurement is plausible, within all limits and beyond none;
-- and the mask of a plausible one is 0.
use mathlib.Core.Path.{◌≡◌, refl, sym, ap, subst, ◌∙◌}
use mathlib.Core.Bool.{Bool, true, false, cond, ◌&&◌}
use mathlib.Core.List.{map}
use Prim.Native.Nat.{ℕ, ◌<◌}
use native.Mathlib.Omega.{arith}
use borrow.Author.Tests.{eqb-true}
use lib.Bits.{bit_or}
use lib.Dec.{T, eqb, leb→le, le→leb}
use lib.IntN.{pos, neg_ℤ, nat_abs}
use lib.ListN.{length, get_or, get_or-map}
use lib.Signed.{le_z}
use mir.Facts.{yes_and}
use Rattle.rules.specs.declared.units.Milliseconds.{Milliseconds}
use Rattle.rules.specs.declared.units.Milliamperes.{Milliamperes}
use Rattle.rules.specs.declared.sensors.Reading.{Reading}
use Rattle.rules.specs.declared.session.Watch.{Watch}
use Rattle.rules.specs.Quantities.{mv, ma, dc, ◌≤mV◌, ◌≤mA◌, ◌≤dC◌, negated, charge_rating, discharge_rating}
use Rattle.rules.specs.Test.{plausible, greatest_current, current_in_range, failed_mask, failed_count}
use Rattle.rules.specs.Protections.{Protection, overvoltage, lowest, highest, hottest, coldest, permitted_at, permitted, table, row_of, mask_below}
use Rattle.rules.specs.Shown.{bit_of, kept_at}
use Rattle.rules.proofs.Apart.{apart}
use Rattle.rules.proofs.Bits.{bit_of_mask, bit_of_none, bit_of_all, none_of_or}
use Rattle.rules.proofs.Bools.{and_true, is_true}
use Rattle.rules.proofs.Order.{at_most_trans}
use Rattle.step.specs.Track.{track_one, keeping, track_all, observe}
use Rattle.step.proofs.Keeping.{keeping_same}
use Rattle.reading.proofs.Laws.{plausible_is}
use Rattle.reading.proofs.Ranges.{plausible_by_extremes}
use Rattle.permitted.proofs.Laws.{permitted_small}
use Rattle.protection.specs.Rows.{masks_of}
use Rattle.calm.specs.Calm.{is_calm}
use Rattle.calm.proofs.Calm.{Calm, calm_parts, calm_within}
use Rattle.tracking.specs.declared.Kept.{Kept}
use Rattle.tracking.specs.Masks.{tracked_at, tracked_by}
use Rattle.tracking.proofs.Laws.{settled_is}
use Rattle.watch.specs.declared.Seen.{Seen}
use Rattle.watch.specs.Kept.{kept_by, is_settled, calm_seen, seen_by, shown_with, watched_by}

-- ---- the failed sensors of a plausible measurement

mask_is : (r : Reading) → cond (plausible r) 0 (failed_mask r) ≡ failed_mask r
mask_is r = by_test (plausible r) (sym (plausible_is r))
  where
    by_test : (ok : Bool) → eqb (failed_mask r) 0 ≡ ok → cond ok 0 (failed_mask r) ≡ failed_mask r
    by_test true e = sym (eqb-true (failed_mask r) 0 e)
    by_test false e = refl

-- ---- tracking by masks

-- a column of the table that no battery type changes
same_column : {A : Type 0} (column : Protection → A) (battery n : ℕ) → map column (table 1) ≡ map column (table battery)
    → column (row_of 1 n) ≡ column (row_of battery n)
unfolding row_of
same_column column battery n same =
    sym (get_or-map column (table 1) n overvoltage)
    ∙ ap (λ l. get_or l n (column overvoltage)) same
    ∙ get_or-map column (table battery) n overvoltage

-- what is watched, with what is kept of the protections
abbrev putting : Kept → Watch → Watch
putting k w = record {
  test = w.test;
  tripped = k.tripped;
  beyond = k.beyond;
  within = k.within;
  mask = w.mask;
  failed = w.failed;
  previous = w.previous;
  since = k.since;
}

module _ (battery : ℕ) (t : Milliseconds) (r : Reading) (w : Watch) (beyond within : ℕ)
    (beyond-is : (n : ℕ) → n < 8 → bit_of beyond n ≡ plausible r && (row_of battery n).beyond r)
    (within-is : (n : ℕ) → n < 8 → bit_of within n ≡ plausible r && (row_of battery n).within r) where
  pub tracked_is : putting (tracked_by beyond within t (kept_by w)) w ≡ track_all battery t r w
  unfolding keeping tracked_by track_one
  tracked_is =
      keeping_same (tracked_at beyond within t (kept_by w)) (λ n. track_one (row_of battery n) t r (kept_at w n)) w
      (λ n h. rw (
        beyond-is n h,
        within-is n h,
        same_column (λ p. p.hold) battery n refl,
        same_column (λ p. p.release) battery n refl,
      ))

-- ---- by the sides of its limits on which a measurement lies

-- a mask of tests, or none where the measurement isn't plausible
side_bit : (plausible : Bool) (test : ℕ → Bool) (n : ℕ) → n < 8 → bit_of (cond plausible (mask_below test 8) 0) n ≡ plausible && test n
side_bit true test n h = bit_of_mask 8 test n h
side_bit false test n h = bit_of_none n

module _ (battery : ℕ) (t : Milliseconds) (r : Reading) (w : Watch) where
  abbrev sides : Seen
  sides = seen_by false battery r

  sides_tracked : putting (tracked_by sides.beyond sides.within t (kept_by w)) w ≡ track_all battery t r w
  unfolding masks_of
  sides_tracked =
      tracked_is battery t r w sides.beyond sides.within
      (side_bit (plausible r) (λ n. (row_of battery n).beyond r))
      (side_bit (plausible r) (λ n. (row_of battery n).within r))

  sides_observed : watched_by sides t r.current w ≡ observe battery t r w
  unfolding observe failed_count
  sides_observed = rw (mask_is r, ← sides_tracked)

-- ---- a calm measurement

module _ (battery : ℕ) (r : Reading) (c : Calm battery r) where
  drawn_in_range : (b : Bool) → T (le_z (negated greatest_current).0 (negated (cond b (ma (pos 180_000)) (ma (pos 120_000)))).0)
  drawn_in_range true = tt
  drawn_in_range false = tt

  in_range_lem : T (current_in_range r.current)
  unfolding permitted
  in_range_lem =
      yes_and (negated greatest_current ≤mA r.current) (r.current ≤mA greatest_current)
      (at_most_trans (negated greatest_current).0 (negated (discharge_rating battery)).0 r.current.0 (drawn_in_range (eqb battery 3)) c.draw)
      (at_most_trans r.current.0 (permitted battery (coldest r)).0 greatest_current.0 c.charge
      (le→leb (permitted_at (nat_abs (charge_rating battery).0) (coldest r).0) 2_000_000 (omega (arith, permitted_small battery (coldest r)))))

  calm_plausible : T (plausible r)
  calm_plausible =
      subst T (plausible_by_extremes r)
      (yes_and ((mv 500 ≤mV lowest r) && (highest r ≤mV mv 5_000)) _
      (yes_and (mv 500 ≤mV lowest r) (highest r ≤mV mv 5_000)
      (le→leb 500 (lowest r).0 (omega (arith, leb→le 2_800 (lowest r).0 c.low)))
      (le→leb (highest r).0 5_000 (omega (arith, leb→le (highest r).0 3_500 c.high))))
      (yes_and (current_in_range r.current) _ in_range_lem
      (yes_and (dc (neg_ℤ (pos 540)) ≤dC coldest r) (hottest r ≤dC dc (pos 880))
      (at_most_trans (neg_ℤ (pos 540)) (pos 50) (coldest r).0 tt c.cold)
      (at_most_trans (hottest r).0 (pos 600) (pos 880) c.hot tt))))

  none_of : (b : Bool) → (T b → ⊥) → b ≡ false
  none_of true n = absurd (n tt)
  none_of false n = refl

  calm_beyond : (n : ℕ) → n < 8 → bit_of 0 n ≡ plausible r && (row_of battery n).beyond r
  calm_beyond n h =
      bit_of_none n
      ∙ sym (rw ((is_true (plausible r)).0 calm_plausible) (none_of ((row_of battery n).beyond r) (λ b. apart battery n h r b (calm_within battery r c n h))))

  calm_bits : (n : ℕ) → n < 8 → bit_of 255 n ≡ plausible r && (row_of battery n).within r
  calm_bits n h =
      bit_of_all 8 n h
      ∙ sym (rw ((is_true (plausible r)).0 calm_plausible) ((is_true ((row_of battery n).within r)).0 (calm_within battery r c n h)))

  calm_observed : (t : Milliseconds) (w : Watch) → watched_by calm_seen t r.current w ≡ observe battery t r w
  unfolding observe failed_count
  calm_observed t w =
      let passes : plausible r ≡ true = (is_true (plausible r)).0 calm_plausible in
      let none : failed_mask r ≡ 0 = sym (mask_is r) ∙ (rw passes) in
      rw (passes, none, ← tracked_is battery t r w 0 255 calm_beyond calm_bits)

-- ---- what a measurement shows is all that counts

pub seen_observed : (battery : ℕ) (t : Milliseconds) (r : Reading) (w : Watch) (calm : Bool) → calm ≡ is_calm battery r
    → watched_by (seen_by calm battery r) t r.current w ≡ observe battery t r w
seen_observed battery t r w true is = calm_observed battery r (calm_parts battery r ((is_true (is_calm battery r)).1 (sym is))) t w
seen_observed battery t r w false is = sides_observed battery t r w

-- ---- what is settled stays

settled_stays : (t : Milliseconds) (i : Milliamperes) (w : Watch) → length w.since ≡ 8 → is_settled w ≡ true
    → shown_with calm_seen t i (kept_by w) ≡ watched_by calm_seen t i w
settled_stays t i w places h =
    let tests = and_true (eqb (bit_or w.beyond w.tripped) 0) (eqb w.within 255) h in
    let none = none_of_or w.beyond w.tripped (eqb-true (bit_or w.beyond w.tripped) 0 tests.0) in
    ap (shown_with calm_seen t i) (settled_is t (kept_by w) places none.1 none.0 (eqb-true w.within 255 tests.1))

pub stays_observed : (battery : ℕ) (t : Milliseconds) (r : Reading) (w : Watch) → length w.since ≡ 8
    → (calm settled : Bool) → calm ≡ is_calm battery r → settled ≡ is_settled w → (calm && settled) ≡ true
    → shown_with calm_seen t r.current (kept_by w) ≡ observe battery t r w
stays_observed battery t r w places calm settled calm-is settled_is h =
    let tests = and_true calm settled h in
    settled_stays t r.current w places (sym settled_is ∙ tests.1)
    ∙ seen_observed battery t r w true (sym tests.0 ∙ calm-is)
