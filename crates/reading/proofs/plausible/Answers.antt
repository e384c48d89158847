use Rattle.reading.proofs.Ranges.{plausible_by_extremes}
use Rattle.reading.proofs.plausible.Goals as goal

pub returns : goal.returns
returns c = rw (c.in_range.ensures, c.extremes-e.ensures) (plausible_by_extremes c.args.r)
