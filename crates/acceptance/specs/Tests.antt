-- The tests of one record, and of the scalars, as one conjunction each; and the sum of records that are tested.
use Rattle.std.specs.Prelude.{ℕ, ◌+◌, Bool, ◌&&◌, List, [], ◌∷◌, nat_le, nat_lt, Option, Some, None}
use Rattle.lists.specs.Base.{when◌then◌else◌, all, total, every}
use Rattle.rules.specs.Types.{BOUND, Settings, Validator, PendingPartialWithdrawal}
use Rattle.rules.specs.Acceptance.{is_flag, epochs_within, partial_in, partial_epoch_within}
use Rattle.primitives.specs.declared.Gwei.{Gwei}
use Rattle.primitives.specs.declared.Scalars.{Scalars}

-- effective balance at most `most`, flag, and epochs of a validator
abbrev pub validator_within : ℕ → Validator → Bool
validator_within most v = nat_le v.effective_balance most && is_flag v && epochs_within v

-- index below n, and epoch of a waiting partial withdrawal
abbrev pub partial_within : ℕ → PendingPartialWithdrawal → Bool
partial_within n p = partial_in n p && partial_epoch_within p

-- what is tested of the scalars and the counts alone
unfoldable pub scalars_within : Settings → Scalars → Bool
scalars_within S s = all
    (nat_lt 0 s.validators
    ∷ nat_le s.validators S.validator_registry_limit
    ∷ nat_le s.deposits S.pending_balance_deposits_limit
    ∷ nat_le s.partials S.pending_partial_withdrawals_limit
    ∷ nat_le s.consolidations S.pending_consolidations_limit
    ∷ nat_lt s.next_withdrawal_validator_index.0 s.validators
    ∷ nat_le s.epoch.0 BOUND
    ∷ nat_le s.next_withdrawal_index.0 BOUND
    ∷ nat_le s.deposit_balance_to_consume.0 BOUND
    ∷ nat_le s.exit_balance_to_consume.0 BOUND
    ∷ nat_le s.earliest_exit_epoch.0 BOUND
    ∷ nat_le s.consolidation_balance_to_consume.0 BOUND
    ∷ nat_le s.earliest_consolidation_epoch.0 BOUND
    ∷ [])

-- a sum with the numbers of some records added to it; BOUND + 1 where a record fails its test or the sum is over BOUND
unfoldable pub tested_sum : {A : Type 0} → (A → Bool) → (A → ℕ) → ℕ → List A → ℕ
tested_sum t w sum xs = when every t xs && nat_le (sum + total w xs) BOUND then sum + total w xs else BOUND + 1

-- a sum within the bound, and none over it
unfoldable pub bounded : ℕ → Option Gwei
bounded n = when nat_le n BOUND then Some (record { 0 = n }) else None
