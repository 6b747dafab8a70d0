-- `table_text::put_decimal` meets its contract. The loop has the digits of the quotient left.
use Rattle.std.proofs.Common.{◌≡◌}
use Rattle.std.proofs.Math.Seq.{sets}
use Rattle.table_text.specs.Text.{decimal}
use Rattle.table_text.proofs.put_decimal.Given as goal

abbrev pub invariant-loop-i : goal.invariant-loop-i
invariant-loop-i l = sets l.out l.at (decimal l.i l.left) ≡ sets l.initial.out l.at (decimal l.width l.n)
