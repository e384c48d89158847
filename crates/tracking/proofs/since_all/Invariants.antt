-- Those before it are as they will be, the others as they were.
use Rattle.tracking.proofs.Laws.{Begun}
use Rattle.tracking.proofs.since_all.Given as goal

abbrev pub invariant-loop-protection : goal.invariant-loop-protection
invariant-loop-protection l = Begun l.begun l.t l.fn.since l.start-items l.protection
