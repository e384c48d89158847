use Rattle.std.proofs.Common.{length}
use Rattle.report_test.proofs.line_by_line.Given as goal

abbrev pub decreases-loop-part : goal.decreases-loop-part
decreases-loop-part g l = length l.rest
