use Rattle.std.proofs.Common.{◌+◌, ◌-◌, ◌*◌, ◌∙◌, arith}
use Rattle.file_stores.specs.Laws.{word_put}
use Rattle.file_stores.proofs.put_word.Goals as goal

pub returns : goal.returns
returns c =
    let a = c.args in
    word_put a.out.now c.copy_from_slice.new.self a.k a.w (a.k * 4 + 4 - a.k * 4) (omega arith) (omega arith)
    (c.copy_from_slice.ensures.after ∙ c.to_le_bytes.ensures)
