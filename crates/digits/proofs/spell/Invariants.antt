use Rattle.digits.proofs.Spelling.{Spelled}
use Rattle.digits.proofs.spell.Given as goal

abbrev pub invariant-loop-i : goal.invariant-loop-i
invariant-loop-i l = Spelled l.fn.n l.fn.digits l.i l.rest l.digits
