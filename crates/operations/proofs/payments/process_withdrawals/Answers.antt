use Rattle.std.proofs.Common.{◌≡◌, Err, rules}
use Rattle.primitives.specs.Answers.{refusal_not_0}
use Rattle.call_answers.specs.Called.{handed_refused}
use Rattle.operations.proofs.payments.process_withdrawals.Goals as goal

pub returns-in_err-accept : goal.returns-in_err-accept
returns-in_err-accept c =
    let e : c.from_residual.result ≡ Err c.in_err-accept.field-0.0 = search rules in
    rw e (handed_refused _ _ _ _ _ c.in_err-accept.ensures.number_value (refusal_not_0 _))

pub returns : goal.returns
returns c = c.process_withdrawals_accepted.ensures
