use Rattle.tables.specs.Rows.{rows}
use Rattle.slices.proofs.settings_from.Goals as goal

pub returns : goal.returns
unfolding rows
returns c = rw c.row_at.ensures at c.from.ensures
