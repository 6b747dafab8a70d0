-- The loop keeps what is left of the tested sum.
use native.Mathlib.Omega.{arith}
use Rattle.acceptance.specs.Laws.{tested_more, tested_stop, tested_over, tested_done}
use Rattle.acceptance.proofs.amounts.sum.Goals as goal

pub returns-in_err-amount : goal.returns-in_err-amount
returns-in_err-amount g c =
    let l = c.loop-i in
    rw c.from_residual.ensures
    (tested_stop _ _ _ _ l.i l.sum _ l.invariant.left (omega arith) c.in_err-amount.ensures)

pub returns-then-amount-sum : goal.returns-then-amount-sum
returns-then-amount-sum g c =
    let l = c.loop-i in
    let a = c.in_ok-amount in
    tested_over _ _ _ _ l.i l.sum _ l.invariant.left (omega arith) a.amount.0 a.ensures.1 (omega arith)

pub loop-i-preserved : goal.loop-i-preserved
loop-i-preserved g c =
    let l = c.loop-i in
    let a = c.in_ok-amount in
    record {
      small = omega arith;
      left = tested_more _ _ _ _ l.i l.sum _ l.invariant.left (omega arith) a.ensures.0 a.amount.0 a.ensures.1;
    }

pub returns : goal.returns
returns g c =
    let l = c.loop-i in
    tested_done _ _ _ _ l.i l.sum _ l.invariant.left (omega arith) l.invariant.small
