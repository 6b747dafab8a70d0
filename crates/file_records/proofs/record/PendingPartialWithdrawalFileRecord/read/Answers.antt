use native.Mathlib.Omega.{arith}
use Rattle.file_format.specs.Books.{partial}
use Rattle.file_records.proofs.record.PendingPartialWithdrawalFileRecord.read.Goals as goal

pub numbers_at-requires : goal.numbers_at-requires
unfolding partial
numbers_at-requires c = (omega arith, c.requires)

pub returns : goal.returns
unfolding partial
returns c = rw c.numbers_at.ensures
