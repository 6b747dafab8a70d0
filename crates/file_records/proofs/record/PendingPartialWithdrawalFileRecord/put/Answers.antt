use Rattle.file_format.specs.Fields.{many}
use Rattle.file_format.specs.Books.{partial}
use Rattle.file_records.proofs.record.PendingPartialWithdrawalFileRecord.put.Goals as goal

pub returns : goal.returns
unfolding partial many
returns c = c.put_numbers.ensures
