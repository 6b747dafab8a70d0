-- The loop keeps what is left of the tested sum.
use native.Mathlib.Omega.{arith}
use mathlib.Core.Path.{sym, ◌∙◌}
use Rattle.acceptance.specs.Laws.{tested_more, tested_stop, tested_over, tested_done}
use Rattle.acceptance.proofs.amounts.tested_sum.Goals as goal

pub returns-then-not-within : goal.returns-then-not-within
returns-then-not-within g c =
    let l = c.loop-i in
    tested_stop _ _ _ _ l.i l.sum _ l.invariant.left (omega arith)
    (sym c.is_within-within.ensures ∙ c.if-not-within.true)

pub returns-then-amount-sum : goal.returns-then-amount-sum
returns-then-amount-sum g c =
    let l = c.loop-i in
    tested_over _ _ _ _ l.i l.sum _ l.invariant.left (omega arith) c.untested_amount_at-amount.result.0
    c.untested_amount_at-amount.ensures (omega arith)

pub loop-i-preserved : goal.loop-i-preserved
loop-i-preserved g c =
    let l = c.loop-i in
    record {
      small = omega arith;
      left =
          tested_more _ _ _ _ l.i l.sum _ l.invariant.left (omega arith)
          (sym c.is_within-within.ensures ∙ c.if-not-within.false) c.untested_amount_at-amount.result.0
          c.untested_amount_at-amount.ensures;
    }

pub returns : goal.returns
returns g c =
    let l = c.loop-i in
    tested_done _ _ _ _ l.i l.sum _ l.invariant.left (omega arith) l.invariant.small
