-- The declared structs as the rules' records.
use Rattle.std.specs.Prelude.{List, [], ◌∷◌, ℕ}
use Rattle.rules.specs.Types as rule
use Rattle.records.specs.declared.registry.Column.{Column}
use Rattle.records.specs.declared.registry.Column.TheVariants.{Slashed, EffectiveBalance, ActivationEligibilityEpoch}
use Rattle.records.specs.declared.registry.Column.TheVariants.{ActivationEpoch, ExitEpoch, WithdrawableEpoch, Balance}
use Rattle.records.specs.declared.validator.Validator.{Validator}
use Rattle.records.specs.declared.queues.PendingBalanceDeposit.{PendingBalanceDeposit}
use Rattle.records.specs.declared.queues.PendingPartialWithdrawal.{PendingPartialWithdrawal}
use Rattle.records.specs.declared.queues.PendingConsolidation.{PendingConsolidation}

abbrev pub plain_validator : Validator → rule.Validator
plain_validator v = record {
  public_key = v.public_key;
  withdrawal_credentials = v.withdrawal_credentials;
  slashed = v.slashed;
  effective_balance = v.effective_balance.0;
  activation_eligibility_epoch = v.activation_eligibility_epoch.0;
  activation_epoch = v.activation_epoch.0;
  exit_epoch = v.exit_epoch.0;
  withdrawable_epoch = v.withdrawable_epoch.0;
  balance = v.balance.0;
}

-- in the order of the registry's columns
abbrev pub validator_words : rule.Validator → List ℕ
validator_words v =
    v.slashed ∷ v.effective_balance ∷ v.activation_eligibility_epoch ∷ v.activation_epoch ∷ v.exit_epoch
    ∷ v.withdrawable_epoch ∷ v.balance ∷ []

abbrev pub column_number : Column → ℕ
column_number Slashed = 0
column_number EffectiveBalance = 1
column_number ActivationEligibilityEpoch = 2
column_number ActivationEpoch = 3
column_number ExitEpoch = 4
column_number WithdrawableEpoch = 5
column_number Balance = 6

abbrev pub plain_deposit : PendingBalanceDeposit → rule.PendingBalanceDeposit
plain_deposit d = record { index = d.index.0; amount = d.amount.0 }

abbrev pub plain_partial : PendingPartialWithdrawal → rule.PendingPartialWithdrawal
plain_partial p = record {
  index = p.index.0;
  amount = p.amount.0;
  withdrawable_epoch = p.withdrawable_epoch.0;
}

abbrev pub plain_consolidation : PendingConsolidation → rule.PendingConsolidation
plain_consolidation c = record { source_index = c.source_index.0; target_index = c.target_index.0 }
