use Rattle.rules.specs.Test.{failed_mask}
use Rattle.reading.proofs.failed_mask.Goals as goal

pub returns : goal.returns
unfolding failed_mask
returns c =
    rw (
      c.mask.ensures,
      c.cell_in_range.ensures,
      c.cell_in_range-2.ensures,
      c.cell_in_range-3.ensures,
      c.cell_in_range-4.ensures,
      c.cell_in_range-5.ensures,
      c.cell_in_range-6.ensures,
      c.cell_in_range-7.ensures,
      c.cell_in_range-8.ensures,
      c.current_in_range.ensures,
      c.temperature_in_range.ensures,
      c.temperature_in_range-2.ensures,
      c.temperature_in_range-3.ensures,
      c.temperature_in_range-4.ensures,
    )
