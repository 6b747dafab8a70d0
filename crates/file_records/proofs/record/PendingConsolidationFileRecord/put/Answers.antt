use Rattle.file_format.specs.Fields.{many}
use Rattle.file_format.specs.Books.{consolidation}
use Rattle.file_records.proofs.record.PendingConsolidationFileRecord.put.Goals as goal

pub returns : goal.returns
unfolding consolidation many
returns c = c.put_numbers.ensures
