use Rattle.std.proofs.Common.{arith, rules}
use Rattle.rules.proofs.Decimals.{decimal_length}
use Rattle.digits.proofs.Spelling.{left_is, counted, counted_all}
use Rattle.digits.proofs.places.Goals as goal

pub loop-rest-init : goal.loop-rest-init
loop-rest-init c = counted c.args.n

pub overflow_add-k : goal.overflow_add-k
overflow_add-k c = omega (arith, c.loop-rest.invariant, decimal_length 19 c.args.n (search rules))

pub loop-rest-preserved : goal.loop-rest-preserved
loop-rest-preserved c = omega (arith, c.loop-rest.invariant, counted c.loop-rest.rest, left_is c.loop-rest.rest (search rules))

pub returns-clause-upper_bound : goal.returns-clause-upper_bound
returns-clause-upper_bound c = omega (arith, counted_all _ _ _ (search rules) c.loop-rest.invariant, decimal_length 19 c.args.n (search rules))
