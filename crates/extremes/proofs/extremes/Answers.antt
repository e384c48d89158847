use Rattle.extremes.proofs.Laws.{highest, lowest, hottest, coldest, of_four, of_eight}
use Rattle.rules.specs.Protections.{extremes}
use Rattle.extremes.proofs.extremes.Goals as goal

pub returns : goal.returns
unfolding extremes
returns c =
    let high = of_eight highest c.max.ensures c.max-2.ensures c.max-3.ensures c.max-4.ensures c.max-5.ensures c.max-6.ensures c.max-7.ensures in
    let low = of_eight lowest c.min.ensures c.min-2.ensures c.min-3.ensures c.min-4.ensures c.min-5.ensures c.min-6.ensures c.min-7.ensures in
    let hot = of_four hottest c.max-8.ensures c.max-9.ensures c.max-10.ensures in
    let cold = of_four coldest c.min-8.ensures c.min-9.ensures c.min-10.ensures in
    λ i. record { highest = high i; lowest = low i; hottest = hot i; coldest = cold i }
