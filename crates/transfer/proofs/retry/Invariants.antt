use Rattle.std.proofs.Common.{ℕ, ◌≡◌}
use Rattle.transfer.proofs.retry.Given as goal

abbrev pub invariant-loop : goal.invariant-loop
invariant-loop g l =
    goal.F-IsAlwaysCallable g l.call
    × ((kept : _ → ℕ) → ((a : _) (r : _) (b : _) → goal.F-step g a r b → kept b ≡ kept a) → kept l.call ≡ kept l.fn.call)
