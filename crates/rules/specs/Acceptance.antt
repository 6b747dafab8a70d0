-- Which settings and books are accepted ("Settings and books accepted"), in the order of that text.
use Rattle.std.specs.Prelude.{Bool, ◌&&◌, ◌||◌, List, [], ◌∷◌, ℕ, ◌+◌, ◌^◌, length, leb, ltb, eqb}
use Rattle.lists.specs.Base.{all, total, every}
use Rattle.rules.specs.Types.{FAR, BOUND, Settings, Validator, Books}
use Rattle.rules.specs.Types.{PendingBalanceDeposit, PendingPartialWithdrawal, PendingConsolidation}
use Rattle.rules.specs.Helpers.{count}

-- ---- settings

abbrev pub is_limit : ℕ → Bool
is_limit n = leb 1 n && leb n 65536

unfoldable pub sound_settings : Settings → Bool
sound_settings S = all
    -- the first five are at most 2^44
    (leb S.min_activation_balance (2 ^ 44)
    ∷ leb S.max_effective_balance_electra (2 ^ 44)
    ∷ leb S.effective_balance_increment (2 ^ 44)
    ∷ leb S.min_per_epoch_churn_limit_electra (2 ^ 44)
    ∷ leb S.max_per_epoch_activation_exit_churn_limit (2 ^ 44)
    -- the next ten at most 2^16
    ∷ leb S.churn_limit_quotient (2 ^ 16)
    ∷ leb S.shard_committee_period (2 ^ 16)
    ∷ leb S.min_validator_withdrawability_delay (2 ^ 16)
    ∷ leb S.max_seed_lookahead (2 ^ 16)
    ∷ leb S.hysteresis_quotient (2 ^ 16)
    ∷ leb S.hysteresis_downward_multiplier (2 ^ 16)
    ∷ leb S.hysteresis_upward_multiplier (2 ^ 16)
    ∷ leb S.max_pending_partials_per_withdrawals_sweep (2 ^ 16)
    ∷ leb S.max_withdrawals_per_payload (2 ^ 16)
    ∷ leb S.max_validators_per_withdrawals_sweep (2 ^ 16)
    -- above 0
    ∷ ltb 0 S.effective_balance_increment
    ∷ ltb 0 S.min_per_epoch_churn_limit_electra
    ∷ ltb 0 S.max_per_epoch_activation_exit_churn_limit
    ∷ ltb 0 S.churn_limit_quotient
    ∷ ltb 0 S.hysteresis_quotient
    ∷ ltb 0 S.max_withdrawals_per_payload
    ∷ ltb 0 S.max_validators_per_withdrawals_sweep
    -- between settings
    ∷ leb S.effective_balance_increment S.min_per_epoch_churn_limit_electra
    ∷ leb S.min_activation_balance S.max_effective_balance_electra
    ∷ ltb S.max_pending_partials_per_withdrawals_sweep S.max_withdrawals_per_payload
    ∷ leb S.max_withdrawals_per_payload 16
    -- limits 1 to 65,536
    ∷ is_limit S.validator_registry_limit
    ∷ is_limit S.pending_balance_deposits_limit
    ∷ is_limit S.pending_partial_withdrawals_limit
    ∷ is_limit S.pending_consolidations_limit
    ∷ [])

-- ---- books

-- the Gwei of some deposits
abbrev pub deposit_amounts : List PendingBalanceDeposit → ℕ
deposit_amounts ds = total (λ d. d.amount) ds

abbrev pub balances : Books → ℕ
balances b = total (λ v. v.balance) b.validators

-- the sum that is conserved: balances plus waiting deposits
abbrev pub held : Books → ℕ
held b = balances b + deposit_amounts b.pending_balance_deposits

abbrev pub partial_amounts : Books → ℕ
partial_amounts b = total (λ p. p.amount) b.pending_partial_withdrawals

abbrev pub deposit_in : ℕ → PendingBalanceDeposit → Bool
deposit_in n d = ltb d.index n

abbrev pub partial_in : ℕ → PendingPartialWithdrawal → Bool
partial_in n p = ltb p.index n

abbrev pub consolidation_in : ℕ → PendingConsolidation → Bool
consolidation_in n c = ltb c.source_index n && ltb c.target_index n

abbrev pub effective_within : Settings → Validator → Bool
effective_within S v = leb v.effective_balance S.max_effective_balance_electra

-- the flag slashed is 0 or 1: no file holds another
abbrev pub is_flag : Validator → Bool
is_flag v = leb v.slashed 1

abbrev pub epoch_within : ℕ → Bool
epoch_within e = leb e BOUND || eqb e FAR

abbrev pub epochs_within : Validator → Bool
epochs_within v =
    epoch_within v.activation_eligibility_epoch
    && epoch_within v.activation_epoch
    && epoch_within v.exit_epoch
    && epoch_within v.withdrawable_epoch

abbrev pub partial_epoch_within : PendingPartialWithdrawal → Bool
partial_epoch_within p = epoch_within p.withdrawable_epoch

unfoldable pub sound_books : Settings → Books → Bool
sound_books S b = all
    -- at least one validator
    (ltb 0 (count b)
    -- lengths within limits
    ∷ leb (count b) S.validator_registry_limit
    ∷ leb (length b.pending_balance_deposits) S.pending_balance_deposits_limit
    ∷ leb (length b.pending_partial_withdrawals) S.pending_partial_withdrawals_limit
    ∷ leb (length b.pending_consolidations) S.pending_consolidations_limit
    -- the sweep's cursor and the queues' indices below the count
    ∷ ltb b.next_withdrawal_validator_index (count b)
    ∷ every (deposit_in (count b)) b.pending_balance_deposits
    ∷ every (partial_in (count b)) b.pending_partial_withdrawals
    ∷ every (consolidation_in (count b)) b.pending_consolidations
    -- effective balances, and the flag
    ∷ every (effective_within S) b.validators
    ∷ every is_flag b.validators
    -- scalars but the receipt start; the cursor stands above
    ∷ leb b.epoch BOUND
    ∷ leb b.next_withdrawal_index BOUND
    ∷ leb b.deposit_balance_to_consume BOUND
    ∷ leb b.exit_balance_to_consume BOUND
    ∷ leb b.earliest_exit_epoch BOUND
    ∷ leb b.consolidation_balance_to_consume BOUND
    ∷ leb b.earliest_consolidation_epoch BOUND
    -- other epochs
    ∷ every epochs_within b.validators
    ∷ every partial_epoch_within b.pending_partial_withdrawals
    -- sums
    ∷ leb (held b) BOUND
    ∷ leb (partial_amounts b) BOUND
    ∷ [])

-- ---- the result of a call, in whole numbers

-- 40 where the registry or the deposit queue is over its limit
unfoldable pub within_limits : Settings → Books → Bool
within_limits S b = all
    (leb (count b) S.validator_registry_limit
    ∷ leb (length b.pending_balance_deposits) S.pending_balance_deposits_limit
    ∷ [])

-- 41 where a sum is over 2^62
unfoldable pub sums_within : Books → Bool
sums_within b = all
    (leb (held b) BOUND
    ∷ leb (partial_amounts b) BOUND
    ∷ [])

-- 42 where an epoch that is not FAR, or the withdrawal index, is over 2^62
unfoldable pub all_epochs_within : Books → Bool
all_epochs_within b = all
    (leb b.epoch BOUND
    ∷ leb b.next_withdrawal_index BOUND
    ∷ leb b.earliest_exit_epoch BOUND
    ∷ leb b.earliest_consolidation_epoch BOUND
    ∷ every epochs_within b.validators
    ∷ every partial_epoch_within b.pending_partial_withdrawals
    ∷ [])
