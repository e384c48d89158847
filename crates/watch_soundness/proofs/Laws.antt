-- The test of the spans as the code goes through them.
use mathlib.Core.Path.{◌≡◌, refl, sym, subst, ◌∙◌}
use mathlib.Core.Bool.{Bool, true, false, not, ◌||◌}
use mathlib.Core.List.{List}
use Prim.Native.Nat.{ℕ, ◌<◌}
use lib.Bits.{bit_or}
use lib.Dec.{T}
use lib.ListN.{get_or}
use Rattle.rules.specs.declared.units.Milliseconds.{Milliseconds}
use Rattle.rules.specs.declared.session.Watch.{Watch}
use Rattle.rules.specs.Quantities.{ms, ◌≤ms◌}
use Rattle.rules.specs.Lists.{tabulate, all}
use Rattle.rules.specs.Shown.{bit_of, span_of, kept_at}
use Rattle.rules.proofs.Bits.{bit_or_lem}
use Rattle.rules.proofs.Bools.{is_true}
use Rattle.rules.proofs.Lists.{all_places}
use Rattle.step.specs.Sound.{started_by}

-- of a protection, that its span, if one runs, started by the last time
abbrev pub is_started : Milliseconds → ℕ → List Milliseconds → ℕ → Bool
is_started last running since n = not (bit_of running n) || (get_or since n (ms 0) ≤ms last)

abbrev pub Started : Milliseconds → ℕ → List Milliseconds → ℕ → Type 0
Started last running since n = is_started last running since n ≡ true

span_started : (last start : Milliseconds) (beyond within : Bool)
    → (not (beyond || within) || (start ≤ms last)) ≡ started_by last (span_of beyond within start)
span_started last start true within = refl
span_started last start false true = refl
span_started last start false false = refl

module _ (last : Milliseconds) (w : Watch) where
  abbrev each : ℕ → Bool
  each n = started_by last (kept_at w n).span

  -- a span runs where either mask has its protection
  place : (n : ℕ) → is_started last (bit_or w.beyond w.within) w.since n ≡ each n
  place n =
      (rw (bit_or_lem w.beyond w.within n))
      ∙ span_started last (get_or w.since n (ms 0)) (bit_of w.beyond n) (bit_of w.within n)

  pub all_started : ((n : ℕ) → n < 8 → Started last (bit_or w.beyond w.within) w.since n) → true ≡ all (tabulate 8 each)
  all_started h =
      sym ((is_true (all (tabulate 8 each))).0
      ((all_places 8 each).1 (λ n l. (is_true (each n)).1 (sym (place n) ∙ h n l))))

  pub one_not_started : (n : ℕ) → n < 8 → is_started last (bit_or w.beyond w.within) w.since n ≡ false → false ≡ all (tabulate 8 each)
  one_not_started n l e = go (all (tabulate 8 each)) (λ t. subst T (sym (place n) ∙ e) ((all_places 8 each).0 t n l))
    where
      go : (b : Bool) → (T b → ⊥) → false ≡ b
      go true h = absurd (h tt)
      go false h = refl
