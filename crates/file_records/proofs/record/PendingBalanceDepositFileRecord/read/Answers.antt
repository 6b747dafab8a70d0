use native.Mathlib.Omega.{arith}
use Rattle.file_format.specs.Books.{deposit}
use Rattle.file_records.proofs.record.PendingBalanceDepositFileRecord.read.Goals as goal

pub numbers_at-requires : goal.numbers_at-requires
unfolding deposit
numbers_at-requires c = (omega arith, c.requires)

pub returns : goal.returns
unfolding deposit
returns c = rw c.numbers_at.ensures
