use Rattle.curve.proofs.Fifty.{row_of_page}
use Rattle.rows_90.proofs.row.Goals as goal

pub returns : goal.returns
returns c = search (row_of_page 90_000, c.row.ensures)
