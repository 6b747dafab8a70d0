-- The declared settings as the rules' settings.
use Rattle.rules.specs.Types as rule
use Rattle.primitives.specs.declared.Settings.{Settings}

abbrev pub settings_of : Settings → rule.Settings
settings_of s = record {
  min_activation_balance = s.min_activation_balance.0;
  max_effective_balance_electra = s.max_effective_balance_electra.0;
  effective_balance_increment = s.effective_balance_increment.0;
  min_per_epoch_churn_limit_electra = s.min_per_epoch_churn_limit_electra.0;
  max_per_epoch_activation_exit_churn_limit = s.max_per_epoch_activation_exit_churn_limit.0;
  churn_limit_quotient = s.churn_limit_quotient;
  shard_committee_period = s.shard_committee_period;
  min_validator_withdrawability_delay = s.min_validator_withdrawability_delay;
  max_seed_lookahead = s.max_seed_lookahead;
  hysteresis_quotient = s.hysteresis_quotient;
  hysteresis_downward_multiplier = s.hysteresis_downward_multiplier;
  hysteresis_upward_multiplier = s.hysteresis_upward_multiplier;
  max_pending_partials_per_withdrawals_sweep = s.max_pending_partials_per_withdrawals_sweep;
  max_withdrawals_per_payload = s.max_withdrawals_per_payload;
  max_validators_per_withdrawals_sweep = s.max_validators_per_withdrawals_sweep;
  validator_registry_limit = s.validator_registry_limit;
  pending_balance_deposits_limit = s.pending_balance_deposits_limit;
  pending_partial_withdrawals_limit = s.pending_partial_withdrawals_limit;
  pending_consolidations_limit = s.pending_consolidations_limit;
}
