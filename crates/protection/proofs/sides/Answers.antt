-- The masks of the rows' sides.
use Rattle.protection.specs.Rows.{sides_of, masks_of}
use Rattle.protection.proofs.sides.Goals as goal

pub returns : goal.returns
unfolding sides_of masks_of
returns c = rw (c.mask-within.ensures, c.mask-beyond.ensures, c.rows.ensures)
