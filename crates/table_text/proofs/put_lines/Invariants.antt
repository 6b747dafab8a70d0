-- `table_text::put_lines` meets its contract. The loop has the rest of the lines left.
use Rattle.std.proofs.Common.{◌≡◌, ◌+◌, ◌*◌, drop}
use Rattle.std.proofs.Math.Seq.{sets}
use Rattle.table_text.specs.Lines.{lines_of}
use Rattle.table_text.specs.Text.{text_lines}
use Rattle.table_text.proofs.put_lines.Given as goal

abbrev pub invariant-loop-i : goal.invariant-loop-i
invariant-loop-i l =
    sets l.out (23 + 32 * l.i) (text_lines (l.i + 1) (drop l.i (lines_of l.results l.n)))
    ≡ sets l.initial.out 23 (text_lines 1 (lines_of l.results l.n))
