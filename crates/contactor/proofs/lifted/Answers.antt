use Rattle.std.proofs.Common.{rules}
use Rattle.contactor.proofs.Laws.{lifted_is}
use Rattle.contactor.proofs.lifted.Goals as goal

pub returns : goal.returns
returns c = lifted_is c.args.battery c.args.on c.args.tripped c.fixed.result (search rules) c.fixed.ensures
