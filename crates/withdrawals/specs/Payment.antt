-- What paying a list of withdrawals does to the table of the validators.
use Rattle.std.specs.Prelude.{◌≡◌, Bool, List, ℕ, ltb}
use Rattle.tables.specs.Rows.{rows}
use Rattle.rules.specs.Types.{Withdrawal}
use Rattle.rules.specs.BlockProcessing.{pay_withdrawals}
use Rattle.records.specs.Layout.{validator_at, validators_past}

-- the words `new` after the withdrawals ws are paid from the words `old` of n validators
pub record Paid (n : ℕ) (ws : List Withdrawal) (old new : List ℕ) : Type 0 where
  pub validators : (ids : List ℕ) → rows n (validator_at ids new) ≡ pay_withdrawals ws (rows n (validator_at ids old))
  pub past : validators_past n new ≡ validators_past n old

abbrev pub index_below : ℕ → Withdrawal → Bool
index_below n w = ltb w.index n
