use Rattle.std.proofs.Common.{◌≡◌, ◌∙◌, pos, arith}
use Rattle.std.proofs.lemmas.Bool.Decides.{nat_tests}
use Rattle.rules.specs.Quantities.{mv, ma, dc, ◌<mV◌, ◌≤mV◌, ◌<mA◌, ◌≤mA◌, ◌<dC◌, ◌≤dC◌, negated}
use Rattle.protection.proofs.Laws.{int_below, int_at_most, bound_small, sides_are}
use Rattle.protection.proofs.rows.Goals as goal

pub over_charge-requires : goal.over_charge-requires
over_charge-requires c =
    bound_small c.args.battery c.extremes-e.result.coldest c.args.r.current _ c.charge_bound-bound.ensures

pub returns : goal.returns
returns c =
    let e = c.extremes-e.result in
    let i = c.args.r.current in
    let d = c.discharge_limit-drawn.result in
    let v = c.spread-difference.result in
    let t0 : c.lt.result ≡ (mv 3_650 <mV e.highest) = grind (arith, nat_tests) in
    let t1 : c.le.result ≡ (e.highest ≤mV mv 3_500) = grind (arith, nat_tests) in
    let t2 : c.lt-2.result ≡ (e.lowest <mV mv 1_700) = grind (arith, nat_tests) in
    let t3 : c.le-2.result ≡ (mv 2_800 ≤mV e.lowest) = grind (arith, nat_tests) in
    let t4 : c.lt-3.result ≡ (dc (pos 710) <dC e.hottest) = c.lt-3.ensures ∙ int_below (pos 710) e.hottest.0 in
    let t5 : c.le-3.result ≡ (e.hottest ≤dC dc (pos 600)) = c.le-3.ensures ∙ int_at_most e.hottest.0 (pos 600) in
    let t6 : c.lt-4.result ≡ (e.coldest <dC dc (pos 0)) = c.lt-4.ensures ∙ int_below e.coldest.0 (pos 0) in
    let t7 : c.lt-5.result ≡ (ma (pos 500) <mA i) = c.lt-5.ensures ∙ int_below (pos 500) i.0 in
    let t8 : c.le-4.result ≡ (dc (pos 50) ≤dC e.coldest) = c.le-4.ensures ∙ int_at_most (pos 50) e.coldest.0 in
    let t9 : c.lt-6.result ≡ (i <mA negated (ma (pos 1_100_000))) = c.lt-6.ensures ∙ int_below i.0 (negated (ma (pos 1_100_000))).0 in
    let t10 : c.le-5.result ≡ (d ≤mA i) = c.le-5.ensures ∙ int_at_most d.0 i.0 in
    let t11 : c.lt-7.result ≡ (i <mA d) = c.lt-7.ensures ∙ int_below i.0 d.0 in
    let t12 : c.le-6.result ≡ (d ≤mA i) = c.le-6.ensures ∙ int_at_most d.0 i.0 in
    let t13 : c.lt-8.result ≡ (mv 500 <mV v) = grind (arith, nat_tests) in
    let t14 : c.le-7.result ≡ (v ≤mV mv 300) = grind (arith, nat_tests) in
    rw (c.over_charge.ensures, t0, t1, t2, t3, t4, t5, t6, t7, t8, t9, t10, t11, t12, t13, t14)
    (sides_are c.args.battery c.args.r _ c.extremes-e.ensures _ c.spread-difference.ensures _ _
    c.charge_bound-bound.ensures c.discharge_limit-drawn.ensures)
