-- `table_text::put_table` meets its contract.
use Rattle.std.proofs.Common.{rules}
use Rattle.table_text.proofs.Laws.{table_printed}
use Rattle.table_text.proofs.put_table.Goals as goal

pub returns : goal.returns
returns c =
    let a = c.args in
    table_printed a.results.now a.n a.out.now (search rules)
    c.put_bytes.ensures c.put_lines.ensures
