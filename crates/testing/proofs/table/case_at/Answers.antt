use Rattle.std.proofs.Common.{arith}
use Rattle.testing.proofs.Walking.{no_head, cut_off, stands}
use Rattle.testing.proofs.table.case_at.Goals.{then-head-lt4-via-then-head-lt4, then-head-lt4-via-else-head-lt4+then-table-head, then-head-lt4-via-else-head-lt4+else-table-head+then-table-head-2}
use Rattle.testing.proofs.table.case_at.Goals as goal

pub returns-then-head-lt4 : goal.returns-then-head-lt4
returns-then-head-lt4 c = elim c.then-head-lt4.branch [
  | then-head-lt4-via-then-head-lt4 w ↦ no_head _ _ _ (omega arith)
  | then-head-lt4-via-else-head-lt4+then-table-head w ↦ cut_off _ _ _ (omega arith) (omega arith)
  | then-head-lt4-via-else-head-lt4+else-table-head+then-table-head-2 w ↦ cut_off _ _ _ (omega arith) (omega arith)
]

pub returns-then-table-start : goal.returns-then-table-start
returns-then-table-start c = cut_off _ _ _ (omega arith) (omega (arith, c.byte-size.ensures))

pub returns : goal.returns
returns c = stands _ _ _ (omega arith) _ c.byte-size.ensures (omega arith)
