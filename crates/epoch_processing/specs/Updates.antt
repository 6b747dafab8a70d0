-- What the update of effective balances leaves in the tables.
use Rattle.std.specs.Prelude.{◌≡◌, List, ℕ, ◌*◌, ◌/◌, ◌<◌}
use Rattle.lists.specs.Base.{adjust}
use Rattle.tables.specs.Rows.{rows}
use Rattle.rules.specs.Types.{Settings}
use Rattle.rules.specs.EpochProcessing.{updated}
use Rattle.records.specs.Layout.{validator_at, validators_past}

-- how far a balance may stand below and above its effective balance
abbrev pub downward_threshold : Settings → ℕ
downward_threshold S = S.effective_balance_increment / S.hysteresis_quotient * S.hysteresis_downward_multiplier

abbrev pub upward_threshold : Settings → ℕ
upward_threshold S = S.effective_balance_increment / S.hysteresis_quotient * S.hysteresis_upward_multiplier

-- validator i is updated
pub record Updated (S : Settings) (i : ℕ) (ids old new : List ℕ) : Type 0 where
  pub validators : (n : ℕ) → i < n
      → rows n (validator_at ids new) ≡ adjust i (updated S) (rows n (validator_at ids old))
  pub past : (n : ℕ) → i < n → validators_past n new ≡ validators_past n old
