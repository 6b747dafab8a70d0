-- A record with some fields replaced. antt has no record update, so each is written out.
use Rattle.std.specs.Prelude.{List, ℕ}
use Rattle.rules.specs.Types.{Validator, Books}
use Rattle.rules.specs.Types.{PendingBalanceDeposit, PendingPartialWithdrawal, PendingConsolidation}

-- ---- a validator

abbrev pub with_withdrawal_credentials : List ℕ → Validator → Validator
with_withdrawal_credentials c v = record {
  public_key = v.public_key;
  withdrawal_credentials = c;
  slashed = v.slashed;
  effective_balance = v.effective_balance;
  activation_eligibility_epoch = v.activation_eligibility_epoch;
  activation_epoch = v.activation_epoch;
  exit_epoch = v.exit_epoch;
  withdrawable_epoch = v.withdrawable_epoch;
  balance = v.balance;
}

abbrev pub with_effective_balance : ℕ → Validator → Validator
with_effective_balance n v = record {
  public_key = v.public_key;
  withdrawal_credentials = v.withdrawal_credentials;
  slashed = v.slashed;
  effective_balance = n;
  activation_eligibility_epoch = v.activation_eligibility_epoch;
  activation_epoch = v.activation_epoch;
  exit_epoch = v.exit_epoch;
  withdrawable_epoch = v.withdrawable_epoch;
  balance = v.balance;
}

-- exit and withdrawable epoch
abbrev pub with_exit : ℕ → ℕ → Validator → Validator
with_exit e w v = record {
  public_key = v.public_key;
  withdrawal_credentials = v.withdrawal_credentials;
  slashed = v.slashed;
  effective_balance = v.effective_balance;
  activation_eligibility_epoch = v.activation_eligibility_epoch;
  activation_epoch = v.activation_epoch;
  exit_epoch = e;
  withdrawable_epoch = w;
  balance = v.balance;
}

abbrev pub with_balance : ℕ → Validator → Validator
with_balance n v = record {
  public_key = v.public_key;
  withdrawal_credentials = v.withdrawal_credentials;
  slashed = v.slashed;
  effective_balance = v.effective_balance;
  activation_eligibility_epoch = v.activation_eligibility_epoch;
  activation_epoch = v.activation_epoch;
  exit_epoch = v.exit_epoch;
  withdrawable_epoch = v.withdrawable_epoch;
  balance = n;
}

-- ---- the books

abbrev pub with_epoch : ℕ → Books → Books
with_epoch e b = record {
  epoch = e;
  next_withdrawal_index = b.next_withdrawal_index;
  next_withdrawal_validator_index = b.next_withdrawal_validator_index;
  deposit_receipts_start_index = b.deposit_receipts_start_index;
  deposit_balance_to_consume = b.deposit_balance_to_consume;
  exit_balance_to_consume = b.exit_balance_to_consume;
  earliest_exit_epoch = b.earliest_exit_epoch;
  consolidation_balance_to_consume = b.consolidation_balance_to_consume;
  earliest_consolidation_epoch = b.earliest_consolidation_epoch;
  validators = b.validators;
  pending_balance_deposits = b.pending_balance_deposits;
  pending_partial_withdrawals = b.pending_partial_withdrawals;
  pending_consolidations = b.pending_consolidations;
}

-- the next withdrawal index, and the validator where the next sweep starts
abbrev pub with_next_withdrawal : ℕ → ℕ → Books → Books
with_next_withdrawal n i b = record {
  epoch = b.epoch;
  next_withdrawal_index = n;
  next_withdrawal_validator_index = i;
  deposit_receipts_start_index = b.deposit_receipts_start_index;
  deposit_balance_to_consume = b.deposit_balance_to_consume;
  exit_balance_to_consume = b.exit_balance_to_consume;
  earliest_exit_epoch = b.earliest_exit_epoch;
  consolidation_balance_to_consume = b.consolidation_balance_to_consume;
  earliest_consolidation_epoch = b.earliest_consolidation_epoch;
  validators = b.validators;
  pending_balance_deposits = b.pending_balance_deposits;
  pending_partial_withdrawals = b.pending_partial_withdrawals;
  pending_consolidations = b.pending_consolidations;
}

abbrev pub with_receipts_start : ℕ → Books → Books
with_receipts_start n b = record {
  epoch = b.epoch;
  next_withdrawal_index = b.next_withdrawal_index;
  next_withdrawal_validator_index = b.next_withdrawal_validator_index;
  deposit_receipts_start_index = n;
  deposit_balance_to_consume = b.deposit_balance_to_consume;
  exit_balance_to_consume = b.exit_balance_to_consume;
  earliest_exit_epoch = b.earliest_exit_epoch;
  consolidation_balance_to_consume = b.consolidation_balance_to_consume;
  earliest_consolidation_epoch = b.earliest_consolidation_epoch;
  validators = b.validators;
  pending_balance_deposits = b.pending_balance_deposits;
  pending_partial_withdrawals = b.pending_partial_withdrawals;
  pending_consolidations = b.pending_consolidations;
}

abbrev pub with_deposit_balance_to_consume : ℕ → Books → Books
with_deposit_balance_to_consume n b = record {
  epoch = b.epoch;
  next_withdrawal_index = b.next_withdrawal_index;
  next_withdrawal_validator_index = b.next_withdrawal_validator_index;
  deposit_receipts_start_index = b.deposit_receipts_start_index;
  deposit_balance_to_consume = n;
  exit_balance_to_consume = b.exit_balance_to_consume;
  earliest_exit_epoch = b.earliest_exit_epoch;
  consolidation_balance_to_consume = b.consolidation_balance_to_consume;
  earliest_consolidation_epoch = b.earliest_consolidation_epoch;
  validators = b.validators;
  pending_balance_deposits = b.pending_balance_deposits;
  pending_partial_withdrawals = b.pending_partial_withdrawals;
  pending_consolidations = b.pending_consolidations;
}

-- the exits' churn account: what is left, and the earliest epoch
abbrev pub with_exit_churn : ℕ → ℕ → Books → Books
with_exit_churn n e b = record {
  epoch = b.epoch;
  next_withdrawal_index = b.next_withdrawal_index;
  next_withdrawal_validator_index = b.next_withdrawal_validator_index;
  deposit_receipts_start_index = b.deposit_receipts_start_index;
  deposit_balance_to_consume = b.deposit_balance_to_consume;
  exit_balance_to_consume = n;
  earliest_exit_epoch = e;
  consolidation_balance_to_consume = b.consolidation_balance_to_consume;
  earliest_consolidation_epoch = b.earliest_consolidation_epoch;
  validators = b.validators;
  pending_balance_deposits = b.pending_balance_deposits;
  pending_partial_withdrawals = b.pending_partial_withdrawals;
  pending_consolidations = b.pending_consolidations;
}

-- the consolidations' churn account
abbrev pub with_consolidation_churn : ℕ → ℕ → Books → Books
with_consolidation_churn n e b = record {
  epoch = b.epoch;
  next_withdrawal_index = b.next_withdrawal_index;
  next_withdrawal_validator_index = b.next_withdrawal_validator_index;
  deposit_receipts_start_index = b.deposit_receipts_start_index;
  deposit_balance_to_consume = b.deposit_balance_to_consume;
  exit_balance_to_consume = b.exit_balance_to_consume;
  earliest_exit_epoch = b.earliest_exit_epoch;
  consolidation_balance_to_consume = n;
  earliest_consolidation_epoch = e;
  validators = b.validators;
  pending_balance_deposits = b.pending_balance_deposits;
  pending_partial_withdrawals = b.pending_partial_withdrawals;
  pending_consolidations = b.pending_consolidations;
}

abbrev pub with_validators : List Validator → Books → Books
with_validators vs b = record {
  epoch = b.epoch;
  next_withdrawal_index = b.next_withdrawal_index;
  next_withdrawal_validator_index = b.next_withdrawal_validator_index;
  deposit_receipts_start_index = b.deposit_receipts_start_index;
  deposit_balance_to_consume = b.deposit_balance_to_consume;
  exit_balance_to_consume = b.exit_balance_to_consume;
  earliest_exit_epoch = b.earliest_exit_epoch;
  consolidation_balance_to_consume = b.consolidation_balance_to_consume;
  earliest_consolidation_epoch = b.earliest_consolidation_epoch;
  validators = vs;
  pending_balance_deposits = b.pending_balance_deposits;
  pending_partial_withdrawals = b.pending_partial_withdrawals;
  pending_consolidations = b.pending_consolidations;
}

abbrev pub with_pending_balance_deposits : List PendingBalanceDeposit → Books → Books
with_pending_balance_deposits ds b = record {
  epoch = b.epoch;
  next_withdrawal_index = b.next_withdrawal_index;
  next_withdrawal_validator_index = b.next_withdrawal_validator_index;
  deposit_receipts_start_index = b.deposit_receipts_start_index;
  deposit_balance_to_consume = b.deposit_balance_to_consume;
  exit_balance_to_consume = b.exit_balance_to_consume;
  earliest_exit_epoch = b.earliest_exit_epoch;
  consolidation_balance_to_consume = b.consolidation_balance_to_consume;
  earliest_consolidation_epoch = b.earliest_consolidation_epoch;
  validators = b.validators;
  pending_balance_deposits = ds;
  pending_partial_withdrawals = b.pending_partial_withdrawals;
  pending_consolidations = b.pending_consolidations;
}

abbrev pub with_pending_partial_withdrawals : List PendingPartialWithdrawal → Books → Books
with_pending_partial_withdrawals ps b = record {
  epoch = b.epoch;
  next_withdrawal_index = b.next_withdrawal_index;
  next_withdrawal_validator_index = b.next_withdrawal_validator_index;
  deposit_receipts_start_index = b.deposit_receipts_start_index;
  deposit_balance_to_consume = b.deposit_balance_to_consume;
  exit_balance_to_consume = b.exit_balance_to_consume;
  earliest_exit_epoch = b.earliest_exit_epoch;
  consolidation_balance_to_consume = b.consolidation_balance_to_consume;
  earliest_consolidation_epoch = b.earliest_consolidation_epoch;
  validators = b.validators;
  pending_balance_deposits = b.pending_balance_deposits;
  pending_partial_withdrawals = ps;
  pending_consolidations = b.pending_consolidations;
}

abbrev pub with_pending_consolidations : List PendingConsolidation → Books → Books
with_pending_consolidations cs b = record {
  epoch = b.epoch;
  next_withdrawal_index = b.next_withdrawal_index;
  next_withdrawal_validator_index = b.next_withdrawal_validator_index;
  deposit_receipts_start_index = b.deposit_receipts_start_index;
  deposit_balance_to_consume = b.deposit_balance_to_consume;
  exit_balance_to_consume = b.exit_balance_to_consume;
  earliest_exit_epoch = b.earliest_exit_epoch;
  consolidation_balance_to_consume = b.consolidation_balance_to_consume;
  earliest_consolidation_epoch = b.earliest_consolidation_epoch;
  validators = b.validators;
  pending_balance_deposits = b.pending_balance_deposits;
  pending_partial_withdrawals = b.pending_partial_withdrawals;
  pending_consolidations = cs;
}
