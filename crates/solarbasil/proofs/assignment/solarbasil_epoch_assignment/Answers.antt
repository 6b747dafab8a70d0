use Rattle.std.proofs.Common.{refl, ap, ◌∙◌}
use Rattle.primitives.specs.Answers.{refusal_not_0}
use Rattle.slices.specs.Exported.{given_refused, given_done}
use Rattle.solarbasil.specs.Assignment.{assignment_done}
use Rattle.solarbasil.proofs.assignment.solarbasil_epoch_assignment.Goals as goal

pub returns-in-Err : goal.returns-in-Err
returns-in-Err c =
    rw c.number.ensures
    (record {
      answer = c.in-Err.ensures.answer;
      left_given = given_refused _ (refusal_not_0 _);
      epoch_given = given_refused _ (refusal_not_0 _);
    })

pub returns-in-Ok : goal.returns-in-Ok
returns-in-Ok c =
    let a = c.args in
    let h = c.in-Ok.ensures in
    let e = assignment_done a.left a.earliest a.activation_exit a.churn a.amount h.answer refl h.assignment in
    record {
      answer = h.answer;
      left_given = ap (λ x. x.left) e ∙ given_done a.left_after.now refl;
      epoch_given = ap (λ x. x.epoch) e ∙ given_done a.epoch.now refl;
    }
