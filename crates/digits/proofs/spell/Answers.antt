use Rattle.std.proofs.Common.{rules}
use Rattle.digits.proofs.Spelling.{spelled_none, spelled_more, spelled_all}
use Rattle.digits.proofs.spell.Goals as goal

pub loop-i-init : goal.loop-i-init
loop-i-init c = spelled_none c.args.n c.args.digits.now

pub loop-i-preserved : goal.loop-i-preserved
loop-i-preserved c = spelled_more _ _ _ _ _ (search rules) c.loop-i.auto.i c.loop-i.invariant

pub returns : goal.returns
returns c = spelled_all _ _ _ _ _ c.requires (search rules) c.loop-i.invariant
