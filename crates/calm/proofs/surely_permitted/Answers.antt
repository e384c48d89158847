use Rattle.std.proofs.Common.{arith}
use Rattle.std.proofs.lemmas.Int.{ints}
use Rattle.calm.proofs.Tests.{at_200, at_250}
use Rattle.calm.specs.Calm.{surely_permitted}
use Rattle.calm.proofs.surely_permitted.Goals as goal
use Rattle.calm.proofs.surely_permitted.Goals.{in_default, in-50-to-32767, in-100-to-32767, in-150-to-32767, in-200-to-32767, in-250-to-32767}

pub returns : goal.returns
unfolding surely_permitted
returns c =
    elim c.if-coldest-lt50.branch [
      | in_default w ↦ grind (arith, ints)
      | in-50-to-32767 w ↦ grind (arith, ints)
      | in-100-to-32767 w ↦ grind (arith, ints)
      | in-150-to-32767 w ↦ grind (arith, ints)
      | in-200-to-32767 w ↦ at_200 c.args.coldest c.args.i c.le.result (grind (arith, ints)) (grind (arith, ints)) (grind (arith, ints))
      | in-250-to-32767 w ↦ at_250 c.args.coldest c.args.i c.le.result (grind (arith, ints)) (grind (arith, ints))
    ]
