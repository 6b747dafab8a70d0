use Rattle.std.proofs.Common.{arith}
use Rattle.file_stores.specs.Laws.{field_none, field_more, field_done}
use Rattle.file_stores.proofs.put_field.Goals as goal

pub loop-i-init : goal.loop-i-init
loop-i-init c = field_none _ _ _

pub loop-i-preserved : goal.loop-i-preserved
loop-i-preserved c =
    let a = c.args in
    field_more a.from.now a.out.now c.loop-i.out _ a.k c.loop-i.i _ (omega (arith, c.div_ceil-i-end.ensures))
    c.requires c.field_word.ensures c.loop-i.invariant c.put_word.ensures

pub returns : goal.returns
returns c =
    let a = c.args in
    field_done a.from.now a.out.now c.loop-i.out a.k c.loop-i.i (omega (arith, c.div_ceil-i-end.ensures))
    (omega (arith, c.div_ceil-i-end.ensures)) c.loop-i.invariant
