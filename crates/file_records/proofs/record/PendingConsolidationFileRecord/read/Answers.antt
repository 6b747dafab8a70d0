use native.Mathlib.Omega.{arith}
use Rattle.file_format.specs.Books.{consolidation}
use Rattle.file_records.proofs.record.PendingConsolidationFileRecord.read.Goals as goal

pub numbers_at-requires : goal.numbers_at-requires
unfolding consolidation
numbers_at-requires c = (omega arith, c.requires)

pub returns : goal.returns
unfolding consolidation
returns c = rw c.numbers_at.ensures
