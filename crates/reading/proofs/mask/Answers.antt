-- A bit more at each step, until all 13 were gone through.
use Rattle.std.proofs.Common.{rules, ◌≡◌, ◌∙◌, ◌<◌, length}
use Rattle.reading.proofs.Laws.{with_bit, without_bit, all_bits}
use Rattle.reading.proofs.mask.Goals as goal
use Rattle.reading.proofs.mask.Goals.{then-not-ok, else-not-ok}

pub loop-sensor-preserved : goal.loop-sensor-preserved
loop-sensor-preserved c =
    let l = c.loop-sensor in
    let oks = c.args.oks in
    let below : l.sensor < 13 = search rules in
    elim c.if-not-ok.branch [
      | then-not-ok w ↦ w.mask-is ∙ with_bit oks l.mask l.sensor below l.invariant (search rules)
      | else-not-ok w ↦ w.mask-is ∙ without_bit oks l.mask l.sensor l.invariant (search rules)
    ]

pub returns : goal.returns
returns c =
    let places : length c.args.oks ≡ 13 = search rules in
    let l = c.loop-sensor in
    all_bits c.args.oks _ l.sensor places (search rules) l.invariant
