use Rattle.std.proofs.Common.{arith, sym}
use Rattle.rules.proofs.ByteLaws.{read_moves}
use Rattle.block_test.proofs.send_singly.Goals as goal

-- an event has a byte
pub loop-e-smaller : goal.loop-e-smaller
loop-e-smaller c =
    let found = rw c.in-Ok-Some.field-0-is at c.in-Ok-Some.ensures in
    let moves = read_moves _ _ _ (sym found) in
    omega (arith, moves.0, moves.1)
