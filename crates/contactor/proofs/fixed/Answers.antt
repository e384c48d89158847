use Rattle.contactor.proofs.Laws.{held_on}
use Rattle.contactor.proofs.fixed.Goals as goal

pub returns-then-on : goal.returns-then-on
returns-then-on c = held_on c.args.battery c.args.on c.if-on.true
