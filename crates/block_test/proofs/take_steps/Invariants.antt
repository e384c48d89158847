use Rattle.std.proofs.Common.{length}
use Rattle.block_test.proofs.take_steps.Given as goal

abbrev pub decreases-loop-kind : goal.decreases-loop-kind
decreases-loop-kind g l = length l.rest
