-- `table_text::put_refused` meets its contract.
use Rattle.std.proofs.Common.{rules}
use Rattle.table_text.specs.Laws.{refused_printed}
use Rattle.table_text.proofs.put_refused.Goals as goal

pub returns : goal.returns
returns c =
    let a = c.args in
    refused_printed a.number a.out.now (search rules)
    c.put_bytes.ensures c.put_field.ensures
