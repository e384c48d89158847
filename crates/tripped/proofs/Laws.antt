-- The mask of a live part: what it keeps, and what the whole record shows.
use mathlib.Core.Path.{◌≡◌, refl, sym}
use Prim.Native.Nat.{◌<◌}
use Rattle.rules.specs.declared.battery.Live.{Live}
use Rattle.rules.specs.declared.battery.Record.{Record}
use Rattle.rules.specs.Shown.{tripped_mask}
use Rattle.rules.proofs.Bits.{mask_of_bits}
use Rattle.step.specs.Print.{tripped_of}

pub kept_is : (l : Live) → l.watch.tripped < 256 → l.watch.tripped ≡ tripped_of l
unfolding tripped_of
kept_is l h = sym (mask_of_bits 8 l.watch.tripped h)

pub tripped_is : (r : Record) → tripped_of r.live ≡ tripped_mask r
unfolding tripped_of
tripped_is r = refl
