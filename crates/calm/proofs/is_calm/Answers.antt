use Rattle.std.proofs.Common.{rules, ◌≡◌, ◌∙◌, ◌&&◌, pos, arith}
use Rattle.std.proofs.lemmas.Bool.Decides.{nat_tests}
use Rattle.rules.specs.Quantities.{mv, dc, ◌≤mV◌, ◌≤mA◌, ◌≤dC◌, negated, discharge_rating}
use Rattle.calm.proofs.Tests.{by_extremes, stopped}
use Rattle.calm.specs.Calm.{is_calm, surely_permitted}
use Rattle.calm.proofs.is_calm.Goals as goal
use Rattle.calm.proofs.is_calm.Goals.{then-le, else-le, then-le-2, else-le-2, then-le-3, else-le-3, then-le-4, else-le-4, then-surely_permitted, else-surely_permitted}

pub returns-else-le-5 : goal.returns-else-le-5
unfolding is_calm
returns-else-le-5 c =
    let e = c.extremes-e.result in
    let a : c.le.result ≡ (e.highest ≤mV mv 3_500) = grind (arith, nat_tests) in
    let b : c.if-le.value ≡ ((e.highest ≤mV mv 3_500) && (mv 2_800 ≤mV e.lowest)) = elim c.if-le.branch [ then-le w ↦ search rules | else-le w ↦ search rules ] in
    let d : c.if-le-2.value ≡ (c.if-le.value && (e.hottest ≤dC dc (pos 600))) = elim c.if-le-2.branch [ then-le-2 w ↦ search rules | else-le-2 w ↦ search rules ] in
    let f : c.if-le-3.value ≡ (c.if-le-2.value && (dc (pos 50) ≤dC e.coldest)) = elim c.if-le-3.branch [ then-le-3 w ↦ search rules | else-le-3 w ↦ search rules ] in
    let g : c.if-le-4.value ≡ (c.if-le-3.value && surely_permitted e.coldest c.args.r.current) = elim c.if-le-4.branch [ then-le-4 w ↦ search rules | else-le-4 w ↦ search rules ] in
    let h : c.if-surely_permitted.value ≡ (c.if-le-4.value && (negated (discharge_rating c.args.battery) ≤mA c.args.r.current)) = elim c.if-surely_permitted.branch [ then-surely_permitted w ↦ search rules | else-surely_permitted w ↦ search rules ] in
    stopped _ _ _ _ _ _ _ _ _ _ _ _ b d f g h c.if-le-5.false
    ∙ by_extremes c.args.battery c.args.r e c.extremes-e.ensures
