-- `table_text::put_field` meets its contract.
use Rattle.table_text.specs.Laws.{field_put}
use Rattle.table_text.proofs.put_field.Goals as goal

pub returns : goal.returns
returns c =
    let a = c.args in
    field_put a.out.now a.at a.width a.n a.behind c.put_decimal.ensures
