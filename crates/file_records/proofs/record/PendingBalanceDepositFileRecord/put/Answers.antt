use Rattle.file_format.specs.Fields.{many}
use Rattle.file_format.specs.Books.{deposit}
use Rattle.file_records.proofs.record.PendingBalanceDepositFileRecord.put.Goals as goal

pub returns : goal.returns
unfolding deposit many
returns c = c.put_numbers.ensures
