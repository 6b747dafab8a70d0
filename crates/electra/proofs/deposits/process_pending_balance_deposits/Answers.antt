use Rattle.std.proofs.Common.{◌≡◌, Err, rules, sym}
use Rattle.acceptance.specs.Handed.{accepted}
use Rattle.primitives.specs.Answers.{refusal_not_0}
use Rattle.call_answers.specs.Called.{handed_refused}
use Rattle.epoch_turns.specs.Epoch.{registry_known, deposits_done}
use Rattle.electra.proofs.deposits.process_pending_balance_deposits.Goals as goal

pub returns-in_err-accept : goal.returns-in_err-accept
returns-in_err-accept c =
    let e : c.from_residual.result ≡ Err c.in_err-accept.field-0.0 = search rules in
    rw e (handed_refused _ _ _ _ _ c.in_err-accept.ensures.number_value (refusal_not_0 _))

pub invariant_of-sound : goal.invariant_of-sound
invariant_of-sound c = record { sound = (accepted _ _ _ (sym c.in_ok-accept.ensures.number_value)).settings }

pub get_activation_exit_churn_limit-allowance-requires : goal.get_activation_exit_churn_limit-allowance-requires
get_activation_exit_churn_limit-allowance-requires c =
    record { registry = registry_known _ _ _ (sym c.in_ok-accept.ensures.number_value) }

pub process_pending_balance_deposits-after-requires : goal.process_pending_balance_deposits-after-requires
process_pending_balance_deposits-after-requires c =
    let a = c.args in
    let h = accepted _ _ _ (sym c.in_ok-accept.ensures.number_value) in
    record {
      room = h.room;
      books_are_sound = h.books;
      allowance_is_limit = c.get_activation_exit_churn_limit-allowance.ensures a.identities.now a.deposits.now
          a.partials.now a.consolidations.now;
    }

pub returns : goal.returns
returns c =
    deposits_done _ _ _ (sym c.in_ok-accept.ensures.number_value)
    c.process_pending_balance_deposits-after.ensures
