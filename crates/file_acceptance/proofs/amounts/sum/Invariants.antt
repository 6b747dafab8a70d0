-- The loop keeps what is left of the tested sum.
use mathlib.Core.Path.{◌≡◌}
use Prim.Native.Nat.{◌≤◌}
use lib.ListN.{drop}
use Rattle.rules.specs.Types.{BOUND}
use Rattle.acceptance.specs.Tests.{tested_sum}
use Rattle.file_format.specs.Words.{words}
use Rattle.file_records.specs.Lists.{records_from}
use Rattle.file_acceptance.proofs.amounts.sum.Given as goal

abbrev pub invariant-loop-i : goal.invariant-loop-i
invariant-loop-i g l =
    let A = g.A.Amounts in
    let xs = records_from A.format A.WORDS l.m (words l.records) in
    record {
      small : l.sum ≤ BOUND;
      left :
          tested_sum (A.within l.amounts) A.amount l.sum (drop l.i xs)
          ≡ tested_sum (A.within l.amounts) A.amount l.fn.start.0 xs;
    }
