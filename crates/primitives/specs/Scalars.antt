-- Scalars with some numbers replaced.
use Rattle.std.specs.Prelude.{ℕ}
use Rattle.primitives.specs.declared.Scalars.{Scalars}

abbrev pub with_epoch : Scalars → ℕ → Scalars
with_epoch s e = record {
  epoch = record { 0 = e };
  next_withdrawal_index = s.next_withdrawal_index;
  next_withdrawal_validator_index = s.next_withdrawal_validator_index;
  deposit_receipts_start_index = s.deposit_receipts_start_index;
  deposit_balance_to_consume = s.deposit_balance_to_consume;
  exit_balance_to_consume = s.exit_balance_to_consume;
  earliest_exit_epoch = s.earliest_exit_epoch;
  consolidation_balance_to_consume = s.consolidation_balance_to_consume;
  earliest_consolidation_epoch = s.earliest_consolidation_epoch;
  validators = s.validators;
  deposits = s.deposits;
  partials = s.partials;
  consolidations = s.consolidations;
}

-- the next withdrawal index, the sweep's cursor, and the count of partials
abbrev pub with_next_withdrawal : Scalars → (n i k : ℕ) → Scalars
with_next_withdrawal s n i k = record {
  epoch = s.epoch;
  next_withdrawal_index = record { 0 = n };
  next_withdrawal_validator_index = record { 0 = i };
  deposit_receipts_start_index = s.deposit_receipts_start_index;
  deposit_balance_to_consume = s.deposit_balance_to_consume;
  exit_balance_to_consume = s.exit_balance_to_consume;
  earliest_exit_epoch = s.earliest_exit_epoch;
  consolidation_balance_to_consume = s.consolidation_balance_to_consume;
  earliest_consolidation_epoch = s.earliest_consolidation_epoch;
  validators = s.validators;
  deposits = s.deposits;
  partials = k;
  consolidations = s.consolidations;
}

abbrev pub with_receipts_start : Scalars → ℕ → Scalars
with_receipts_start s n = record {
  epoch = s.epoch;
  next_withdrawal_index = s.next_withdrawal_index;
  next_withdrawal_validator_index = s.next_withdrawal_validator_index;
  deposit_receipts_start_index = n;
  deposit_balance_to_consume = s.deposit_balance_to_consume;
  exit_balance_to_consume = s.exit_balance_to_consume;
  earliest_exit_epoch = s.earliest_exit_epoch;
  consolidation_balance_to_consume = s.consolidation_balance_to_consume;
  earliest_consolidation_epoch = s.earliest_consolidation_epoch;
  validators = s.validators;
  deposits = s.deposits;
  partials = s.partials;
  consolidations = s.consolidations;
}

-- the carry, and the count of deposits
abbrev pub with_deposit_balance_to_consume : Scalars → (n k : ℕ) → Scalars
with_deposit_balance_to_consume s n k = record {
  epoch = s.epoch;
  next_withdrawal_index = s.next_withdrawal_index;
  next_withdrawal_validator_index = s.next_withdrawal_validator_index;
  deposit_receipts_start_index = s.deposit_receipts_start_index;
  deposit_balance_to_consume = record { 0 = n };
  exit_balance_to_consume = s.exit_balance_to_consume;
  earliest_exit_epoch = s.earliest_exit_epoch;
  consolidation_balance_to_consume = s.consolidation_balance_to_consume;
  earliest_consolidation_epoch = s.earliest_consolidation_epoch;
  validators = s.validators;
  deposits = k;
  partials = s.partials;
  consolidations = s.consolidations;
}

-- the exits' churn account: what is left, and the earliest epoch
abbrev pub with_exit_churn : Scalars → (n e : ℕ) → Scalars
with_exit_churn s n e = record {
  epoch = s.epoch;
  next_withdrawal_index = s.next_withdrawal_index;
  next_withdrawal_validator_index = s.next_withdrawal_validator_index;
  deposit_receipts_start_index = s.deposit_receipts_start_index;
  deposit_balance_to_consume = s.deposit_balance_to_consume;
  exit_balance_to_consume = record { 0 = n };
  earliest_exit_epoch = record { 0 = e };
  consolidation_balance_to_consume = s.consolidation_balance_to_consume;
  earliest_consolidation_epoch = s.earliest_consolidation_epoch;
  validators = s.validators;
  deposits = s.deposits;
  partials = s.partials;
  consolidations = s.consolidations;
}

-- the consolidations' churn account
abbrev pub with_consolidation_churn : Scalars → (n e : ℕ) → Scalars
with_consolidation_churn s n e = record {
  epoch = s.epoch;
  next_withdrawal_index = s.next_withdrawal_index;
  next_withdrawal_validator_index = s.next_withdrawal_validator_index;
  deposit_receipts_start_index = s.deposit_receipts_start_index;
  deposit_balance_to_consume = s.deposit_balance_to_consume;
  exit_balance_to_consume = s.exit_balance_to_consume;
  earliest_exit_epoch = s.earliest_exit_epoch;
  consolidation_balance_to_consume = record { 0 = n };
  earliest_consolidation_epoch = record { 0 = e };
  validators = s.validators;
  deposits = s.deposits;
  partials = s.partials;
  consolidations = s.consolidations;
}

-- the counts
abbrev pub with_validators : Scalars → ℕ → Scalars
with_validators s k = record {
  epoch = s.epoch;
  next_withdrawal_index = s.next_withdrawal_index;
  next_withdrawal_validator_index = s.next_withdrawal_validator_index;
  deposit_receipts_start_index = s.deposit_receipts_start_index;
  deposit_balance_to_consume = s.deposit_balance_to_consume;
  exit_balance_to_consume = s.exit_balance_to_consume;
  earliest_exit_epoch = s.earliest_exit_epoch;
  consolidation_balance_to_consume = s.consolidation_balance_to_consume;
  earliest_consolidation_epoch = s.earliest_consolidation_epoch;
  validators = k;
  deposits = s.deposits;
  partials = s.partials;
  consolidations = s.consolidations;
}

abbrev pub with_deposits : Scalars → ℕ → Scalars
with_deposits s k = record {
  epoch = s.epoch;
  next_withdrawal_index = s.next_withdrawal_index;
  next_withdrawal_validator_index = s.next_withdrawal_validator_index;
  deposit_receipts_start_index = s.deposit_receipts_start_index;
  deposit_balance_to_consume = s.deposit_balance_to_consume;
  exit_balance_to_consume = s.exit_balance_to_consume;
  earliest_exit_epoch = s.earliest_exit_epoch;
  consolidation_balance_to_consume = s.consolidation_balance_to_consume;
  earliest_consolidation_epoch = s.earliest_consolidation_epoch;
  validators = s.validators;
  deposits = k;
  partials = s.partials;
  consolidations = s.consolidations;
}

abbrev pub with_partials : Scalars → ℕ → Scalars
with_partials s k = record {
  epoch = s.epoch;
  next_withdrawal_index = s.next_withdrawal_index;
  next_withdrawal_validator_index = s.next_withdrawal_validator_index;
  deposit_receipts_start_index = s.deposit_receipts_start_index;
  deposit_balance_to_consume = s.deposit_balance_to_consume;
  exit_balance_to_consume = s.exit_balance_to_consume;
  earliest_exit_epoch = s.earliest_exit_epoch;
  consolidation_balance_to_consume = s.consolidation_balance_to_consume;
  earliest_consolidation_epoch = s.earliest_consolidation_epoch;
  validators = s.validators;
  deposits = s.deposits;
  partials = k;
  consolidations = s.consolidations;
}

abbrev pub with_consolidations : Scalars → ℕ → Scalars
with_consolidations s k = record {
  epoch = s.epoch;
  next_withdrawal_index = s.next_withdrawal_index;
  next_withdrawal_validator_index = s.next_withdrawal_validator_index;
  deposit_receipts_start_index = s.deposit_receipts_start_index;
  deposit_balance_to_consume = s.deposit_balance_to_consume;
  exit_balance_to_consume = s.exit_balance_to_consume;
  earliest_exit_epoch = s.earliest_exit_epoch;
  consolidation_balance_to_consume = s.consolidation_balance_to_consume;
  earliest_consolidation_epoch = s.earliest_consolidation_epoch;
  validators = s.validators;
  deposits = s.deposits;
  partials = s.partials;
  consolidations = k;
}
