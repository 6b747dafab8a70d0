-- The books file: head 1, settings, scalars, counted validators, deposits, partials and consolidations.
use Rattle.std.specs.Prelude.{Bool, ◌&&◌, List, [], ◌∷◌, ℕ, ◌^◌, get_or, ltb}
use Rattle.lists.specs.Base.{every}
use Rattle.rules.specs.Types.{Settings, Validator, Books}
use Rattle.rules.specs.Types.{PendingBalanceDeposit, PendingPartialWithdrawal, PendingConsolidation}
use Rattle.rules.specs.Profiles.{settings_from}
use Rattle.file_format.specs.Words.{books_head}
use Rattle.file_format.specs.Fields.{Format, number, is_field, field, flag, ◌⊗◌, by_parts, many, counted, headed}

-- ---- settings

abbrev pub settings_numbers : Settings → List ℕ
settings_numbers S =
    S.min_activation_balance
    ∷ S.max_effective_balance_electra
    ∷ S.effective_balance_increment
    ∷ S.min_per_epoch_churn_limit_electra
    ∷ S.max_per_epoch_activation_exit_churn_limit
    ∷ S.churn_limit_quotient
    ∷ S.shard_committee_period
    ∷ S.min_validator_withdrawability_delay
    ∷ S.max_seed_lookahead
    ∷ S.hysteresis_quotient
    ∷ S.hysteresis_downward_multiplier
    ∷ S.hysteresis_upward_multiplier
    ∷ S.max_pending_partials_per_withdrawals_sweep
    ∷ S.max_withdrawals_per_payload
    ∷ S.max_validators_per_withdrawals_sweep
    ∷ S.validator_registry_limit
    ∷ S.pending_balance_deposits_limit
    ∷ S.pending_partial_withdrawals_limit
    ∷ S.pending_consolidations_limit
    ∷ []

unfoldable pub settings : Format Settings
settings = by_parts (many number 19) settings_numbers settings_from

-- ---- a validator: key, credentials, the flag slashed, six numbers

abbrev pub ValidatorParts : Type 0
ValidatorParts = List ℕ × (List ℕ × (ℕ × List ℕ))

abbrev pub validator_parts : Validator → ValidatorParts
validator_parts v =
    let numbers =
    v.effective_balance
    ∷ v.activation_eligibility_epoch
    ∷ v.activation_epoch
    ∷ v.exit_epoch
    ∷ v.withdrawable_epoch
    ∷ v.balance
    ∷ [] in
    (v.public_key, (v.withdrawal_credentials, (v.slashed, numbers)))

abbrev pub validator_of : ValidatorParts → Validator
validator_of p =
    let xs = p.1.1.1 in
    record {
      public_key = p.0;
      withdrawal_credentials = p.1.0;
      slashed = p.1.1.0;
      effective_balance = get_or xs 0 0;
      activation_eligibility_epoch = get_or xs 1 0;
      activation_epoch = get_or xs 2 0;
      exit_epoch = get_or xs 3 0;
      withdrawable_epoch = get_or xs 4 0;
      balance = get_or xs 5 0;
    }

unfoldable pub validator : Format Validator
validator = by_parts (field 48 ⊗ field 32 ⊗ flag ⊗ many number 6) validator_parts validator_of

-- ---- the queues' records

abbrev pub deposit_numbers : PendingBalanceDeposit → List ℕ
deposit_numbers d = d.index ∷ d.amount ∷ []

abbrev pub deposit_of : List ℕ → PendingBalanceDeposit
deposit_of xs = record { index = get_or xs 0 0; amount = get_or xs 1 0 }

unfoldable pub deposit : Format PendingBalanceDeposit
deposit = by_parts (many number 2) deposit_numbers deposit_of

abbrev pub partial_numbers : PendingPartialWithdrawal → List ℕ
partial_numbers p = p.index ∷ p.amount ∷ p.withdrawable_epoch ∷ []

abbrev pub partial_of : List ℕ → PendingPartialWithdrawal
partial_of xs = record { index = get_or xs 0 0; amount = get_or xs 1 0; withdrawable_epoch = get_or xs 2 0 }

unfoldable pub partial : Format PendingPartialWithdrawal
partial = by_parts (many number 3) partial_numbers partial_of

abbrev pub consolidation_numbers : PendingConsolidation → List ℕ
consolidation_numbers c = c.source_index ∷ c.target_index ∷ []

abbrev pub consolidation_of : List ℕ → PendingConsolidation
consolidation_of xs = record { source_index = get_or xs 0 0; target_index = get_or xs 1 0 }

unfoldable pub consolidation : Format PendingConsolidation
consolidation = by_parts (many number 2) consolidation_numbers consolidation_of

-- ---- the books: nine scalars, then the lists

abbrev pub BooksParts : Type 0
BooksParts =
    List ℕ
    × (List Validator
    × (List PendingBalanceDeposit × (List PendingPartialWithdrawal × List PendingConsolidation)))

abbrev pub books_parts : Books → BooksParts
books_parts b =
    let scalars =
    b.epoch
    ∷ b.next_withdrawal_index
    ∷ b.next_withdrawal_validator_index
    ∷ b.deposit_receipts_start_index
    ∷ b.deposit_balance_to_consume
    ∷ b.exit_balance_to_consume
    ∷ b.earliest_exit_epoch
    ∷ b.consolidation_balance_to_consume
    ∷ b.earliest_consolidation_epoch
    ∷ [] in (
      scalars,
      (
        b.validators,
        (b.pending_balance_deposits, (b.pending_partial_withdrawals, b.pending_consolidations)),
      ),
    )

abbrev pub books_from : BooksParts → Books
books_from p =
    let xs = p.0 in
    record {
      epoch = get_or xs 0 0;
      next_withdrawal_index = get_or xs 1 0;
      next_withdrawal_validator_index = get_or xs 2 0;
      deposit_receipts_start_index = get_or xs 3 0;
      deposit_balance_to_consume = get_or xs 4 0;
      exit_balance_to_consume = get_or xs 5 0;
      earliest_exit_epoch = get_or xs 6 0;
      consolidation_balance_to_consume = get_or xs 7 0;
      earliest_consolidation_epoch = get_or xs 8 0;
      validators = p.1.0;
      pending_balance_deposits = p.1.1.0;
      pending_partial_withdrawals = p.1.1.1.0;
      pending_consolidations = p.1.1.1.1;
    }

-- Any count of 28 bits is read, if the file has as many records; books with more than the settings allow are answered
-- 2, not 60.
abbrev pub list_of : {A : Type 0} → Format A → Format (List A)
list_of F = counted (2 ^ 28) F

unfoldable pub books : Format Books
books =
    by_parts
    (many number 9 ⊗ list_of validator ⊗ list_of deposit ⊗ list_of partial ⊗ list_of consolidation)
    books_parts books_from

unfoldable pub books_format : Format (Settings × Books)
books_format = headed books_head (settings ⊗ books)

-- ---- what a file can hold

-- numbers below 2^64, flags 0 or 1, keys of 48 bytes, credentials of 32, counts below 2^28
abbrev pub books_writable : Settings → Books → Bool
books_writable S b = books_format.domain (S, b)

-- what accepted settings and books leave open: the bytes, and the receipt start, which is any number of 64 bits
abbrev pub bytes_sized : Validator → Bool
bytes_sized v = is_field 48 v.public_key && is_field 32 v.withdrawal_credentials

abbrev pub sized : Books → Bool
sized b = every bytes_sized b.validators && ltb b.deposit_receipts_start_index (2 ^ 64)
