-- What the deposit loop leaves in the tables.
use Rattle.std.specs.Prelude.{◌≡◌, List, ℕ, ◌≤◌, drop}
use Rattle.lists.specs.Base.{total}
use Rattle.tables.specs.Rows.{rows}
use Rattle.rules.specs.Types.{Validator}
use Rattle.rules.specs.EpochProcessing.{process_deposits}
use Rattle.rule_laws.specs.Deposits.{credit}
use Rattle.records.specs.Layout.{validator_at, deposit_at, validators_past}

-- the Gwei of some validators
abbrev pub validator_balances : List Validator → ℕ
validator_balances vs = total (λ v. v.balance) vs

-- the first `count` deposits are credited to the first n validators
pub record Credited (n count : ℕ) (ds old new : List ℕ) : Type 0 where
  pub validators : (ids : List ℕ)
      → rows n (validator_at ids new) ≡ credit (rows count (deposit_at ds)) (rows n (validator_at ids old))
  pub past : validators_past n new ≡ validators_past n old

-- of the first m deposits, those before `next`, together `amount`, are credited to the first n validators
pub record Processed (available n m : ℕ) (ds old new : List ℕ) (amount next : ℕ) : Type 0 where
  pub loop : (ids : List ℕ)
      → process_deposits available 0 (rows m (deposit_at ds)) (rows n (validator_at ids old))
      ≡ record {
        validators = rows n (validator_at ids new);
        waiting = drop next (rows m (deposit_at ds));
        processed_amount = amount;
      }
  pub reached : next ≤ m
  pub within : amount ≤ available
  pub past : validators_past n new ≡ validators_past n old
