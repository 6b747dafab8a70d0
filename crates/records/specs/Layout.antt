-- The lent tables, read as the rules' records. The registry's two tables are laid out by columns, one for each field,
-- so that a pass over a field reads what it needs alone; the queues are laid out by records. Only this file, the laws
-- in Stores and the functions that read or store single words know the places.
use Rattle.std.specs.Prelude.{List, ℕ, ◌+◌, ◌*◌, ◌/◌, length, get_or, take, drop}
use Rattle.tables.specs.Rows.{rows}
use Rattle.rules.specs.Types.{Validator, PendingBalanceDeposit, PendingPartialWithdrawal, PendingConsolidation}

-- ---- how many records fit

abbrev pub identities_fit : List ℕ → ℕ
identities_fit ids = length ids / 80

abbrev pub validators_fit : List ℕ → ℕ
validators_fit ws = length ws / 7

abbrev pub deposits_fit : List ℕ → ℕ
deposits_fit ws = length ws / 2

abbrev pub partials_fit : List ℕ → ℕ
partials_fit ws = length ws / 3

abbrev pub consolidations_fit : List ℕ → ℕ
consolidations_fit ws = length ws / 2

-- ---- identities: the keys of as many validators as fit, 48 bytes each, then their credentials, 32 bytes each

unfoldable pub key_column : List ℕ → List ℕ
key_column ids = take (48 * identities_fit ids) ids

unfoldable pub credentials_column : List ℕ → List ℕ
credentials_column ids = take (32 * identities_fit ids) (drop (48 * identities_fit ids) ids)

abbrev pub public_key_at : List ℕ → ℕ → List ℕ
public_key_at ids i = take 48 (drop (48 * i) (key_column ids))

abbrev pub withdrawal_credentials_at : List ℕ → ℕ → List ℕ
withdrawal_credentials_at ids i = take 32 (drop (32 * i) (credentials_column ids))

-- ---- validators: seven columns, of as many words each as validators fit

-- column k of c words
abbrev pub column : (c k : ℕ) → List ℕ → List ℕ
column c k ws = take c (drop (k * c) ws)

-- word k of validator i
unfoldable pub word_at : ℕ → List ℕ → ℕ → ℕ
word_at k ws i = get_or (column (validators_fit ws) k ws) i 0

abbrev pub slashed_at : List ℕ → ℕ → ℕ
slashed_at ws i = word_at 0 ws i

abbrev pub effective_balance_at : List ℕ → ℕ → ℕ
effective_balance_at ws i = word_at 1 ws i

abbrev pub activation_eligibility_epoch_at : List ℕ → ℕ → ℕ
activation_eligibility_epoch_at ws i = word_at 2 ws i

abbrev pub activation_epoch_at : List ℕ → ℕ → ℕ
activation_epoch_at ws i = word_at 3 ws i

abbrev pub exit_epoch_at : List ℕ → ℕ → ℕ
exit_epoch_at ws i = word_at 4 ws i

abbrev pub withdrawable_epoch_at : List ℕ → ℕ → ℕ
withdrawable_epoch_at ws i = word_at 5 ws i

abbrev pub balance_at : List ℕ → ℕ → ℕ
balance_at ws i = word_at 6 ws i

-- validator i of the identities ids and the words ws
abbrev pub validator_at : List ℕ → List ℕ → ℕ → Validator
validator_at ids ws i = record {
  public_key = public_key_at ids i;
  withdrawal_credentials = withdrawal_credentials_at ids i;
  slashed = slashed_at ws i;
  effective_balance = effective_balance_at ws i;
  activation_eligibility_epoch = activation_eligibility_epoch_at ws i;
  activation_epoch = activation_epoch_at ws i;
  exit_epoch = exit_epoch_at ws i;
  withdrawable_epoch = withdrawable_epoch_at ws i;
  balance = balance_at ws i;
}

-- ---- the queues

abbrev pub deposit_at : List ℕ → ℕ → PendingBalanceDeposit
deposit_at ws i = record { index = get_or ws (2 * i) 0; amount = get_or ws (2 * i + 1) 0 }

abbrev pub partial_at : List ℕ → ℕ → PendingPartialWithdrawal
partial_at ws i = record {
  index = get_or ws (3 * i) 0;
  amount = get_or ws (3 * i + 1) 0;
  withdrawable_epoch = get_or ws (3 * i + 2) 0;
}

abbrev pub consolidation_at : List ℕ → ℕ → PendingConsolidation
consolidation_at ws i = record { source_index = get_or ws (2 * i) 0; target_index = get_or ws (2 * i + 1) 0 }

-- ---- what stands past the first n records

-- past n keys, past n credentials, and behind them
unfoldable pub identities_past : ℕ → List ℕ → List ℕ × List ℕ × List ℕ
identities_past n ids =
    (drop (48 * n) (key_column ids), drop (32 * n) (credentials_column ids), drop (80 * identities_fit ids) ids)

-- past n words of each column, and behind the columns
unfoldable pub validators_past : ℕ → List ℕ → List (List ℕ) × List ℕ
validators_past n ws =
    (rows 7 (λ k. drop n (column (validators_fit ws) k ws)), drop (7 * validators_fit ws) ws)

abbrev pub deposits_past : ℕ → List ℕ → List ℕ
deposits_past n ws = drop (2 * n) ws

abbrev pub partials_past : ℕ → List ℕ → List ℕ
partials_past n ws = drop (3 * n) ws

abbrev pub consolidations_past : ℕ → List ℕ → List ℕ
consolidations_past n ws = drop (2 * n) ws
