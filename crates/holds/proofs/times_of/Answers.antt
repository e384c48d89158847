use Rattle.std.proofs.Common.{◌≡◌, ◌∙◌, map, get_or, arith}
use Rattle.std.proofs.lemmas.Grind.{common_steps}
use Rattle.std.proofs.Math.ListN.{get_or-map}
use Rattle.rules.specs.Protections.{row_of, table, overvoltage}
use Rattle.holds.specs.Times.{times_of}
use Rattle.holds.proofs.times_of.Goals as goal

pub returns : goal.returns
unfolding row_of
returns c = λ battery.
    let at : c.unwrap_or.result.now ≡ get_or (map times_of (table battery)) c.args.protection (times_of overvoltage) = grind (arith, common_steps) in
    at ∙ get_or-map times_of (table battery) c.args.protection overvoltage
