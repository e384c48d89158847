use Rattle.std.proofs.Common.{rules}
use Rattle.counter.proofs.Room.{room}
use Rattle.counter.proofs.increase.Goals as goal

pub returns-clause-counts_up : goal.returns-clause-counts_up
returns-clause-counts_up c =
    (room c.args.size c.args.digits.now (search rules) c.carry.result c.carry.ensures.value c.carry.new.digits c.carry.ensures.digits_after).1.1
