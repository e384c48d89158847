-- The masks of the code are those of the eight protections.
use Rattle.std.proofs.Common.{rules}
use Rattle.tracking.proofs.Laws.{track_is}
use Rattle.tracking.proofs.track.Goals as goal

pub returns : goal.returns
returns c =
    rw (c.due-due.ensures, c.since_all-since.ensures)
    (track_is c.args.beyond c.args.within c.args.t c.args.k (search rules) (search rules) (search rules) (search rules))
