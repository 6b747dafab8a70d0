use Rattle.table_stores.specs.Laws.{stored_none, stored_more}
use Rattle.table_stores.proofs.store_records.Goals as goal

pub loop-i-init : goal.loop-i-init
loop-i-init g c = stored_none _ _ _

pub loop-i-preserved : goal.loop-i-preserved
loop-i-preserved g c =
    let p = c.push in
    stored_more _ _ _ c.loop-i.invariant p.ensures p.auto.table
    (rw (c.behind.ensures, c.WORDS.ensures) at c.read.ensures)
