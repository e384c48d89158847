-- The protections by masks: the starts of their spans, and each tracked by itself.
use Rattle.std.specs.Prelude.{ℕ, cond, List, get_or}
use Rattle.rules.specs.declared.units.Milliseconds.{Milliseconds}
use Rattle.rules.specs.Lists.{tabulate}
use Rattle.rules.specs.Quantities.{ms}
use Rattle.rules.specs.Protections.{row_of, mask_below}
use Rattle.rules.specs.Shown.{ProtectionState, bit_of, span_of}
use Rattle.step.specs.Track.{tracked, is_beyond, is_within, start_or}
use Rattle.tracking.specs.declared.Kept.{Kept}

-- the starts of the spans, where those of a mask begin at a time
unfoldable pub since_all : ℕ → Milliseconds → List Milliseconds → List Milliseconds
since_all begun t since = tabulate 8 (λ protection. cond (bit_of begun protection) t (get_or since protection (ms 0)))

-- ---- all eight, each tracked by itself

-- what is kept of a protection, as the record shows it
abbrev pub state_of : Kept → ℕ → ProtectionState
state_of k protection = record {
  span = span_of (bit_of k.beyond protection) (bit_of k.within protection) (get_or k.since protection (ms 0));
  tripped = bit_of k.tripped protection;
}

abbrev pub tracked_at : ℕ → ℕ → Milliseconds → Kept → ℕ → ProtectionState
tracked_at beyond within t k protection =
    tracked (bit_of beyond protection) (bit_of within protection) (row_of 1 protection).hold (row_of 1 protection).release t (state_of k protection)

unfoldable pub tracked_by : ℕ → ℕ → Milliseconds → Kept → Kept
tracked_by beyond within t k = record {
  tripped = mask_below (λ protection. (tracked_at beyond within t k protection).tripped) 8;
  beyond = mask_below (λ protection. is_beyond (tracked_at beyond within t k protection).span) 8;
  within = mask_below (λ protection. is_within (tracked_at beyond within t k protection).span) 8;
  since = tabulate 8 (λ protection. start_or (get_or k.since protection (ms 0)) (tracked_at beyond within t k protection).span);
}
