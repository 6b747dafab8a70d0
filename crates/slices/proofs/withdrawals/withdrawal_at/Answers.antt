use Rattle.std.proofs.Common.{add-zero}
use Rattle.tables.specs.Rows.{rows}
use Rattle.slices.proofs.withdrawals.withdrawal_at.Goals as goal

pub returns : goal.returns
unfolding rows
returns c = rw (c.row_at.ensures, c.address_at.ensures, add-zero)
