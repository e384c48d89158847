use Rattle.std.proofs.Common.{◌≡◌, ap, rules, pos, to_z, of_z, w16}
use borrow.Author.Tests.{eq-eqb, ne_eqb}
use Rattle.rules.specs.Quantities.{ma}
use Rattle.rules.specs.Protections.{permitted}
use Rattle.permitted.proofs.Laws.{below_zero, from_zero}
use Rattle.permitted.proofs.permitted.Goals as goal

pub returns-in-Err : goal.returns-in-Err
unfolding permitted
returns-in-Err c =
    let z = c.args.coldest.0 in
    let back : to_z w16 (of_z w16 z) ≡ z = search rules in
    ap (λ n. ma (pos n)) (below_zero _ z (search rules) (rw back at c.in-Err.ensures))

pub returns-in-Ok : goal.returns-in-Ok
unfolding permitted
returns-in-Ok c =
    let z = c.args.coldest.0 in
    let back : to_z w16 (of_z w16 z) ≡ z = search rules in
    let found = rw back at c.in-Ok.ensures in
    rw (eq-eqb c.args.battery 3 c.if-battery-eq3.true) (from_zero 90_000 z _ found.0 (rw found.1 at c.row.ensures))

pub returns-in-Ok-2 : goal.returns-in-Ok-2
unfolding permitted
returns-in-Ok-2 c =
    let z = c.args.coldest.0 in
    let back : to_z w16 (of_z w16 z) ≡ z = search rules in
    let found = rw back at c.in-Ok.ensures in
    rw (ne_eqb c.args.battery 3 c.if-battery-eq3.false) (from_zero 60_000 z _ found.0 (rw found.1 at c.row-in-Ok-2.ensures))
