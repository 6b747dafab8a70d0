use mathlib.Core.Path.{◌∙◌}
use native.Mathlib.Omega.{arith}
use Rattle.helpers.specs.Assigned.{answer_churn_zero, answer_over, answer_done}
use Rattle.helpers.specs.Assigned.{result_refused, result_done}
use Rattle.helpers.proofs.assignment.epoch_assignment.Goals as goal

pub returns-then-churn-eq0 : goal.returns-then-churn-eq0
returns-then-churn-eq0 c =
    let a = c.args in
    let number =
    answer_churn_zero a.left.0 a.earliest.0 a.activation_exit.0 a.churn.0 a.amount.0
    c.if-churn-eq0.true in
    record { answer = number; assignment = result_refused _ _ _ _ _ number (omega arith) }

pub returns-then-p-gt-BOUND : goal.returns-then-p-gt-BOUND
returns-then-p-gt-BOUND c =
    let number = answer_over _ _ _ _ _ c.assignment_parts-p.ensures c.if-churn-eq0.false (omega arith) in
    record { answer = number; assignment = result_refused _ _ _ _ _ number (omega arith) }

pub returns-then-p : goal.returns-then-p
returns-then-p c =
    let number = answer_over _ _ _ _ _ c.assignment_parts-p.ensures c.if-churn-eq0.false (omega arith) in
    record { answer = number; assignment = result_refused _ _ _ _ _ number (omega arith) }

pub returns : goal.returns
returns c =
    let number = answer_done _ _ _ _ _ c.assignment_parts-p.ensures c.if-churn-eq0.false (omega arith) in
    record { answer = number; assignment = c.assignment_parts-p.ensures ∙ result_done _ _ _ _ _ number }
