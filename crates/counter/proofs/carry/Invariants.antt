use Rattle.std.proofs.Common.{◌≡◌, ◌≤◌, length}
use Rattle.counter.specs.Counting.{carried, grown}
use Rattle.counter.proofs.carry.Given as goal

abbrev pub invariant-loop-i : goal.invariant-loop-i
invariant-loop-i l =
    (l.i ≤ l.size) × (length l.digits ≡ length l.fn.digits) × (carried l.size l.fn.digits ≡ carried l.i l.digits) × (grown l.size l.fn.digits ≡ grown l.i l.digits)

abbrev pub decreases-loop-i : goal.decreases-loop-i
decreases-loop-i l = l.i
