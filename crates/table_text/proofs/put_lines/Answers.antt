-- `table_text::put_lines` meets its contract. The loop has the rest of the lines left.
use Rattle.std.proofs.Common.{◌∙◌, rules}
use Rattle.table_text.specs.Laws.{line_more, lines_end}
use Rattle.table_text.proofs.put_lines.Goals as goal

pub loop-i-preserved : goal.loop-i-preserved
loop-i-preserved c =
    let a = c.args in
    let l = c.loop-i in
    line_more l.out a.results.now a.n l.i (search rules) c.put_line.ensures ∙ l.invariant

pub returns : goal.returns
returns c =
    let a = c.args in
    let l = c.loop-i in
    lines_end l.out a.results.now a.n l.i (search rules) l.invariant
