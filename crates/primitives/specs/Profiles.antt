-- The constant rows of chain values, each with the test that its settings are sound.
use Rattle.std.specs.Prelude.{◌≡◌, Bool, true, List, [], ◌∷◌, ℕ, get_or}
use Rattle.rules.specs.Profiles.{mainnet_row}
use Rattle.rules.specs.Acceptance.{sound_settings}
use Rattle.rule_laws.specs.Accepted.{Limit, SoundSettings, settings_sound, settings_sound_so}
use Rattle.primitives.specs.declared.Settings.{Settings}
use Rattle.primitives.specs.Settings.{settings_of}

-- the settings that a row of fifteen chain values and four limits make
abbrev pub row_settings : List ℕ → (registry deposits partials consolidations : ℕ) → Settings
row_settings row registry deposits partials consolidations = record {
  min_activation_balance = record { 0 = get_or row 0 0 };
  max_effective_balance_electra = record { 0 = get_or row 1 0 };
  effective_balance_increment = record { 0 = get_or row 2 0 };
  min_per_epoch_churn_limit_electra = record { 0 = get_or row 3 0 };
  max_per_epoch_activation_exit_churn_limit = record { 0 = get_or row 4 0 };
  churn_limit_quotient = get_or row 5 0;
  shard_committee_period = get_or row 6 0;
  min_validator_withdrawability_delay = get_or row 7 0;
  max_seed_lookahead = get_or row 8 0;
  hysteresis_quotient = get_or row 9 0;
  hysteresis_downward_multiplier = get_or row 10 0;
  hysteresis_upward_multiplier = get_or row 11 0;
  max_pending_partials_per_withdrawals_sweep = get_or row 12 0;
  max_withdrawals_per_payload = get_or row 13 0;
  max_validators_per_withdrawals_sweep = get_or row 14 0;
  validator_registry_limit = registry;
  pending_balance_deposits_limit = deposits;
  pending_partial_withdrawals_limit = partials;
  pending_consolidations_limit = consolidations;
}

-- every row that the library knows
abbrev pub profiles : List (List ℕ)
profiles = mainnet_row ∷ []

-- the test of a row: its settings are sound with the least limits
abbrev pub row_sound : List ℕ → Bool
row_sound row = sound_settings (settings_of (row_settings row 1 1 1 1))

-- a row that passes is sound with any limits from 1 to 65,536
pub row_settings_sound : (row : List ℕ) → row_sound row ≡ true → (registry deposits partials consolidations : ℕ)
    → Limit registry → Limit deposits → Limit partials → Limit consolidations
    → sound_settings (settings_of (row_settings row registry deposits partials consolidations)) ≡ true
row_settings_sound row e registry deposits partials consolidations l₁ l₂ l₃ l₄ =
    let σ : SoundSettings (settings_of (row_settings row 1 1 1 1)) = settings_sound _ e in
    settings_sound_so (settings_of (row_settings row registry deposits partials consolidations)) record {
      min_activation_balance = σ.min_activation_balance;
      max_effective_balance = σ.max_effective_balance;
      increment = σ.increment;
      min_churn = σ.min_churn;
      max_churn = σ.max_churn;
      quotient = σ.quotient;
      period = σ.period;
      delay = σ.delay;
      lookahead = σ.lookahead;
      hysteresis_quotient = σ.hysteresis_quotient;
      downward = σ.downward;
      upward = σ.upward;
      partials = σ.partials;
      payload = σ.payload;
      sweep = σ.sweep;
      increment_some = σ.increment_some;
      min_churn_some = σ.min_churn_some;
      max_churn_some = σ.max_churn_some;
      quotient_some = σ.quotient_some;
      hysteresis_quotient_some = σ.hysteresis_quotient_some;
      payload_some = σ.payload_some;
      sweep_some = σ.sweep_some;
      increment_churn = σ.increment_churn;
      min_max = σ.min_max;
      partials_payload = σ.partials_payload;
      payload_sixteen = σ.payload_sixteen;
      registry_limit = l₁;
      deposits_limit = l₂;
      partials_limit = l₃;
      consolidations_limit = l₄;
    }
