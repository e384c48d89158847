use Rattle.std.proofs.Common.{length, ◌-◌}
use Rattle.block_test.proofs.send_singly.Given as goal

abbrev pub decreases-loop-e : goal.decreases-loop-e
decreases-loop-e l = length l.events - l.at
