use Rattle.std.proofs.Common.{rules, length, of_calls}
use Rattle.transfer.proofs.read_some.Goals as goal

-- no call changes how long the slice is
pub returns : goal.returns
returns g c =
    let told = c.retry.ensures (λ f. length f.1.now) (λ a r b s. search (rules, of_calls, s)) in
    search (rules, of_calls, told)
