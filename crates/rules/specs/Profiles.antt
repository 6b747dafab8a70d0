-- The constant rows of chain values, and the settings that numbers make.
use Rattle.std.specs.Prelude.{List, [], ◌∷◌, ℕ, get_or}
use Rattle.rules.specs.Types.{Settings}

-- nineteen numbers in the order of the scope text: fifteen chain values, four limits
abbrev pub settings_from : List ℕ → Settings
settings_from ns = record {
  min_activation_balance = get_or ns 0 0;
  max_effective_balance_electra = get_or ns 1 0;
  effective_balance_increment = get_or ns 2 0;
  min_per_epoch_churn_limit_electra = get_or ns 3 0;
  max_per_epoch_activation_exit_churn_limit = get_or ns 4 0;
  churn_limit_quotient = get_or ns 5 0;
  shard_committee_period = get_or ns 6 0;
  min_validator_withdrawability_delay = get_or ns 7 0;
  max_seed_lookahead = get_or ns 8 0;
  hysteresis_quotient = get_or ns 9 0;
  hysteresis_downward_multiplier = get_or ns 10 0;
  hysteresis_upward_multiplier = get_or ns 11 0;
  max_pending_partials_per_withdrawals_sweep = get_or ns 12 0;
  max_withdrawals_per_payload = get_or ns 13 0;
  max_validators_per_withdrawals_sweep = get_or ns 14 0;
  validator_registry_limit = get_or ns 15 0;
  pending_balance_deposits_limit = get_or ns 16 0;
  pending_partial_withdrawals_limit = get_or ns 17 0;
  pending_consolidations_limit = get_or ns 18 0;
}

-- the fifteen chain values of mainnet
abbrev pub mainnet_row : List ℕ
mainnet_row =
    32000000000
    ∷ 2048000000000
    ∷ 1000000000
    ∷ 128000000000
    ∷ 256000000000
    ∷ 65536
    ∷ 256
    ∷ 256
    ∷ 4
    ∷ 4
    ∷ 1
    ∷ 5
    ∷ 8
    ∷ 16
    ∷ 16384
    ∷ []
