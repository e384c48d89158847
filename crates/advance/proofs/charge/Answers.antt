use Rattle.advance.proofs.Laws.{charged, not_charged, no_neighbour}
use Rattle.advance.proofs.charge.Goals as goal

pub returns-in-Some : goal.returns-in-Some
returns-in-Some c =
    let v = c.args in
    charged v.previous v.plausible v.t v.i v.n c.in-Some.start c.in-Some.earlier _ _ _ c.in-Some.is c.if-plausible.true
    c.elapsed-d.ensures c.inflow-gained.ensures.is c.outflow-lost.ensures.is

pub returns-in_default : goal.returns-in_default
returns-in_default c =
    let v = c.args in
    not_charged v.previous v.plausible v.t v.i v.n c.in-Some.start c.in-Some.earlier c.in-Some.is c.if-plausible.false

pub returns-in_default-2 : goal.returns-in_default-2
returns-in_default-2 c =
    let v = c.args in
    no_neighbour v.previous v.plausible v.t v.i v.n c.in_default.is
