use Rattle.std.proofs.Common.{rules}
use Rattle.books_writer.specs.Lists.{records_none, records_more, records_done}
use Rattle.books_writer.proofs.counted.put_records.Goals as goal

pub loop-i-init : goal.loop-i-init
loop-i-init g c = records_none _ _ _ _

pub loop-i-preserved : goal.loop-i-preserved
loop-i-preserved g c =
    records_more _ _ c.args.n _ (λ i h. g.met.R.FileRecord.written _) _ _ _ _ _ _
    (search rules) (search rules) c.loop-i.invariant c.entry_at.ensures
    (rw c.WORDS.ensures at c.put.ensures)

pub returns : goal.returns
returns g c =
    records_done _ _ c.args.n _ (λ i h. g.met.R.FileRecord.written _) _ _ _ _ _
    (search rules) (search rules) (search rules) c.put_count.ensures c.loop-i.invariant
