use Rattle.std.proofs.Common.{rules}
use Rattle.tripped.proofs.Laws.{kept_is}
use Rattle.tripped.proofs.mask.Goals as goal

pub returns : goal.returns
returns c = search (kept_is, rules)
