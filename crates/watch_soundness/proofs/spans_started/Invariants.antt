-- the spans before it started by the last time
use Rattle.std.proofs.Common.{ℕ, ◌<◌}
use Rattle.watch_soundness.proofs.Laws.{Started}
use Rattle.watch_soundness.proofs.spans_started.Given as goal

abbrev pub invariant-loop-protection : goal.invariant-loop-protection
invariant-loop-protection l = (n : ℕ) → n < l.protection → Started l.last l.running l.fn.w.since n
