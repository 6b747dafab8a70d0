-- `table_text::put_line` meets its contract.
use Rattle.table_text.specs.Laws.{line_put}
use Rattle.table_text.proofs.put_line.Goals as goal

pub returns : goal.returns
returns c =
    let a = c.args in
    line_put a.out.now a.at a.position a.code a.answer a.total
    c.put_field.ensures c.put_field-2.ensures c.put_field-3.ensures c.put_field-4.ensures
