-- Settings and scalars as lists of numbers, in the order of their structs. A number that is missing reads as 0.
use Rattle.std.specs.Prelude.{List, [], ◌∷◌, ℕ, get_or}
use Rattle.primitives.specs.declared.Settings.{Settings}
use Rattle.primitives.specs.declared.Scalars.{Scalars}
use Rattle.primitives.specs.Profiles.{row_settings}

-- nineteen numbers: the chain values, then the four limits
abbrev pub settings_in : List ℕ → Settings
settings_in xs = row_settings xs (get_or xs 15 0) (get_or xs 16 0) (get_or xs 17 0) (get_or xs 18 0)

-- the numbers of settings
abbrev pub setting_numbers : Settings → List ℕ
setting_numbers s =
    s.min_activation_balance.0
    ∷ s.max_effective_balance_electra.0
    ∷ s.effective_balance_increment.0
    ∷ s.min_per_epoch_churn_limit_electra.0
    ∷ s.max_per_epoch_activation_exit_churn_limit.0
    ∷ s.churn_limit_quotient
    ∷ s.shard_committee_period
    ∷ s.min_validator_withdrawability_delay
    ∷ s.max_seed_lookahead
    ∷ s.hysteresis_quotient
    ∷ s.hysteresis_downward_multiplier
    ∷ s.hysteresis_upward_multiplier
    ∷ s.max_pending_partials_per_withdrawals_sweep
    ∷ s.max_withdrawals_per_payload
    ∷ s.max_validators_per_withdrawals_sweep
    ∷ s.validator_registry_limit
    ∷ s.pending_balance_deposits_limit
    ∷ s.pending_partial_withdrawals_limit
    ∷ s.pending_consolidations_limit
    ∷ []

-- thirteen numbers: the scalars, then the four counts
abbrev pub scalars_in : List ℕ → Scalars
scalars_in xs = record {
  epoch = record { 0 = get_or xs 0 0 };
  next_withdrawal_index = record { 0 = get_or xs 1 0 };
  next_withdrawal_validator_index = record { 0 = get_or xs 2 0 };
  deposit_receipts_start_index = get_or xs 3 0;
  deposit_balance_to_consume = record { 0 = get_or xs 4 0 };
  exit_balance_to_consume = record { 0 = get_or xs 5 0 };
  earliest_exit_epoch = record { 0 = get_or xs 6 0 };
  consolidation_balance_to_consume = record { 0 = get_or xs 7 0 };
  earliest_consolidation_epoch = record { 0 = get_or xs 8 0 };
  validators = get_or xs 9 0;
  deposits = get_or xs 10 0;
  partials = get_or xs 11 0;
  consolidations = get_or xs 12 0;
}

-- the numbers of scalars
abbrev pub scalar_numbers : Scalars → List ℕ
scalar_numbers s =
    s.epoch.0
    ∷ s.next_withdrawal_index.0
    ∷ s.next_withdrawal_validator_index.0
    ∷ s.deposit_receipts_start_index
    ∷ s.deposit_balance_to_consume.0
    ∷ s.exit_balance_to_consume.0
    ∷ s.earliest_exit_epoch.0
    ∷ s.consolidation_balance_to_consume.0
    ∷ s.earliest_consolidation_epoch.0
    ∷ s.validators
    ∷ s.deposits
    ∷ s.partials
    ∷ s.consolidations
    ∷ []
