-- `table_text::put_decimal` meets its contract. The loop has the digits of the quotient left.
use Rattle.std.proofs.Common.{◌∙◌, rules}
use Rattle.table_text.specs.Laws.{digit_more, digit_end}
use Rattle.table_text.proofs.put_decimal.Goals as goal

pub loop-i-preserved : goal.loop-i-preserved
loop-i-preserved c =
    let l = c.loop-i in
    digit_more l.out c.args.at l.i l.left c.digit.result (search rules) c.digit.ensures ∙ l.invariant

pub returns : goal.returns
returns c =
    let l = c.loop-i in
    digit_end l.out c.args.at l.i l.left (search rules) l.invariant
