use Rattle.file_format.specs.Words.{words}
use Rattle.file_records.specs.Lists.{records_from}
use Rattle.table_stores.specs.Stored.{Stored}
use Rattle.table_stores.proofs.store_records.Given as goal

abbrev pub invariant-loop-i : goal.invariant-loop-i
invariant-loop-i g l =
    let R = g.R.FileRecord in
    Stored R.decode R.width l.i (records_from R.format R.WORDS l.i (words l.list)) l.initial.table l.table
