-- Where the accounts have room, what is watched and the accounts after the measurement.
use Rattle.std.proofs.Common.{rules, ◌≡◌, true}
use Rattle.advance.specs.Room.{accounts_room}
use Rattle.advance.proofs.Laws.{passed_plausible}
use Rattle.advance.proofs.measure.Goals as goal

pub returns : goal.returns
returns c =
    let v = c.args in
    let room : accounts_room v.l.tally ≡ true = search rules in
    rw (
      room,
      c.charge-tally.ensures,
      c.eq-plausible.ensures,
      c.observe-watch.ensures,
      passed_plausible v.l.battery v.t v.r v.l.watch,
    )
