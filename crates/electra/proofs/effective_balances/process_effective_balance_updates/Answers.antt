use Rattle.std.proofs.Common.{◌≡◌, Err, rules, sym}
use Rattle.acceptance.specs.Handed.{accepted}
use Rattle.primitives.specs.Answers.{refusal_not_0}
use Rattle.call_answers.specs.Called.{handed_refused}
use Rattle.epoch_turns.specs.Epoch.{updates_known, effective_done}
use Rattle.electra.proofs.effective_balances.process_effective_balance_updates.Goals as goal

pub returns-in_err-accept : goal.returns-in_err-accept
returns-in_err-accept c =
    let e : c.from_residual.result ≡ Err c.in_err-accept.field-0.0 = search rules in
    rw e (handed_refused _ _ _ _ _ c.in_err-accept.ensures.number_value (refusal_not_0 _))

pub invariant_of-sound : goal.invariant_of-sound
invariant_of-sound c = record { sound = (accepted _ _ _ (sym c.in_ok-accept.ensures.number_value)).settings }

pub process_effective_balance_updates-after-requires : goal.process_effective_balance_updates-after-requires
process_effective_balance_updates-after-requires c =
    updates_known _ _ _ (sym c.in_ok-accept.ensures.number_value)

pub returns : goal.returns
returns c =
    let a = c.args in
    effective_done _ _ _ (sym c.in_ok-accept.ensures.number_value)
    (c.process_effective_balance_updates-after.ensures.stepped a.deposits.now a.partials.now a.consolidations.now)
