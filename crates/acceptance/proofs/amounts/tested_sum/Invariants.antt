-- The loop keeps what is left of the tested sum.
use Rattle.std.proofs.Common.{◌≡◌, ◌≤◌, drop}
use Rattle.tables.specs.Rows.{rows}
use Rattle.rules.specs.Types.{BOUND}
use Rattle.acceptance.specs.Tests.{tested_sum}
use Rattle.acceptance.proofs.amounts.tested_sum.Given as goal

abbrev pub invariant-loop-i : goal.invariant-loop-i
invariant-loop-i g l =
    let A = g.A.TestedAmounts in
    let xs = rows l.m (A.record_at l.table) in
    record {
      small : l.sum ≤ BOUND;
      left :
          tested_sum (A.within l.amounts) A.amount l.sum (drop l.i xs)
          ≡ tested_sum (A.within l.amounts) A.amount l.fn.start.0 xs;
    }
