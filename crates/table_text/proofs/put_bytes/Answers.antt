-- `table_text::put_bytes` meets its contract.
use Rattle.std.proofs.Common.{◌+◌, ◌-◌, length, arith}
use Rattle.table_text.specs.Laws.{bytes_put}
use Rattle.table_text.proofs.put_bytes.Goals as goal

pub returns : goal.returns
returns c =
    let a = c.args in
    let bs = a.bytes.now in
    bytes_put a.out.now bs c.copy_from_slice.new.self a.at (a.at + length bs - a.at) c.requires (omega arith)
    c.copy_from_slice.ensures.after
