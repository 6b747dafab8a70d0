-- The records of the rules, in whole numbers. Field names are the Rust's, with hyphens.
use Rattle.std.specs.Prelude.{List, ℕ, ◌-◌, ◌^◌}

-- FAR_FUTURE_EPOCH, an epoch that never comes; also the receipt start that is not set
abbrev pub FAR : ℕ
FAR = 2 ^ 64 - 1

-- the bound of sums, of epochs other than FAR, and of scalars
abbrev pub BOUND : ℕ
BOUND = 2 ^ 62

-- the fifteen chain values, then the limits of the registry and of the three queues
pub record Settings : Type 0 where
  pub min_activation_balance : ℕ
  pub max_effective_balance_electra : ℕ
  pub effective_balance_increment : ℕ
  pub min_per_epoch_churn_limit_electra : ℕ
  pub max_per_epoch_activation_exit_churn_limit : ℕ
  pub churn_limit_quotient : ℕ
  pub shard_committee_period : ℕ
  pub min_validator_withdrawability_delay : ℕ
  pub max_seed_lookahead : ℕ
  pub hysteresis_quotient : ℕ
  pub hysteresis_downward_multiplier : ℕ
  pub hysteresis_upward_multiplier : ℕ
  pub max_pending_partials_per_withdrawals_sweep : ℕ
  pub max_withdrawals_per_payload : ℕ
  pub max_validators_per_withdrawals_sweep : ℕ
  pub validator_registry_limit : ℕ
  pub pending_balance_deposits_limit : ℕ
  pub pending_partial_withdrawals_limit : ℕ
  pub pending_consolidations_limit : ℕ

-- phase0/validator.rs, with the validator's balance; slashed is a flag, 0 or 1
pub record Validator : Type 0 where
  pub public_key : List ℕ
  pub withdrawal_credentials : List ℕ
  pub slashed : ℕ
  pub effective_balance : ℕ
  pub activation_eligibility_epoch : ℕ
  pub activation_epoch : ℕ
  pub exit_epoch : ℕ
  pub withdrawable_epoch : ℕ
  pub balance : ℕ

-- electra/beacon_state.rs
pub record PendingBalanceDeposit : Type 0 where
  pub index : ℕ
  pub amount : ℕ

pub record PendingPartialWithdrawal : Type 0 where
  pub index : ℕ
  pub amount : ℕ
  pub withdrawable_epoch : ℕ

pub record PendingConsolidation : Type 0 where
  pub source_index : ℕ
  pub target_index : ℕ

-- capella/withdrawal.rs
pub record Withdrawal : Type 0 where
  pub index : ℕ
  pub validator_index : ℕ
  pub address : List ℕ
  pub amount : ℕ

-- the part of electra/beacon_state.rs that balances and queues need
pub record Books : Type 0 where
  pub epoch : ℕ
  pub next_withdrawal_index : ℕ
  pub next_withdrawal_validator_index : ℕ
  pub deposit_receipts_start_index : ℕ
  pub deposit_balance_to_consume : ℕ
  pub exit_balance_to_consume : ℕ
  pub earliest_exit_epoch : ℕ
  pub consolidation_balance_to_consume : ℕ
  pub earliest_consolidation_epoch : ℕ
  pub validators : List Validator
  pub pending_balance_deposits : List PendingBalanceDeposit
  pub pending_partial_withdrawals : List PendingPartialWithdrawal
  pub pending_consolidations : List PendingConsolidation
