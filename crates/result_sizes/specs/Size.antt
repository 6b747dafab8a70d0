-- The three tests of a result's size, where only one part of a test can fail.
use Rattle.std.specs.Prelude.{◌≡◌, Bool, true, false, ℕ, ◌≤◌, length, leb}
use Rattle.std.proofs.Common.{le-leb}
use Rattle.lists.specs.Base.{when◌then◌else◌, all, every}
use Rattle.lists.specs.Laws.{and_true}
use Rattle.rules.specs.Types.{BOUND, Settings, Books}
use Rattle.rules.specs.Helpers.{count}
use Rattle.rules.specs.Acceptance.{held, partial_amounts, epochs_within, partial_epoch_within}
use Rattle.rules.specs.Acceptance.{within_limits, sums_within, all_epochs_within}
use Rattle.rules.specs.Calls.{size_refusal}

-- the answer by what the three tests said
abbrev pub size_number : (limits sums epochs : Bool) → ℕ
size_number false s e = 40
size_number true false e = 41
size_number true true false = 42
size_number true true true = 0

pub size_by : (S : Settings) (e : Books) (p q r : Bool) → within_limits S e ≡ p → sums_within e ≡ q
    → all_epochs_within e ≡ r → size_refusal S e ≡ size_number p q r
unfolding size_refusal when◌then◌else◌
size_by S e false q r h₁ h₂ h₃ = rw h₁
size_by S e true false r h₁ h₂ h₃ = rw (h₁, h₂)
size_by S e true true false h₁ h₂ h₃ = rw (h₁, h₂, h₃)
size_by S e true true true h₁ h₂ h₃ = rw (h₁, h₂, h₃)

-- the registry is within its limit: the deposit queue decides
pub limits_queue : (S : Settings) (e : Books) → count e ≤ S.validator_registry_limit
    → within_limits S e ≡ leb (length e.pending_balance_deposits) S.pending_balance_deposits_limit
unfolding within_limits all
limits_queue S e h = rw (le-leb (count e) S.validator_registry_limit h) (and_true _)

-- partial amounts are within the bound: what is held decides
pub sums_held : (e : Books) → partial_amounts e ≤ BOUND → sums_within e ≡ leb (held e) BOUND
unfolding sums_within all
sums_held e h = rw (le-leb (partial_amounts e) BOUND h) (and_true _)

-- what is held is within the bound: partial amounts decide
pub sums_partials : (e : Books) → held e ≤ BOUND → sums_within e ≡ leb (partial_amounts e) BOUND
unfolding sums_within all
sums_partials e h = rw (le-leb (held e) BOUND h) (and_true _)

-- all other epochs and the index are within the bound: the epoch decides
pub epochs_epoch : (e : Books) → e.next_withdrawal_index ≤ BOUND → e.earliest_exit_epoch ≤ BOUND
    → e.earliest_consolidation_epoch ≤ BOUND → every epochs_within e.validators ≡ true
    → every partial_epoch_within e.pending_partial_withdrawals ≡ true
    → all_epochs_within e ≡ leb e.epoch BOUND
unfolding all_epochs_within all
epochs_epoch e i x c v p =
    rw (
      le-leb e.next_withdrawal_index BOUND i,
      le-leb e.earliest_exit_epoch BOUND x,
      le-leb e.earliest_consolidation_epoch BOUND c,
      v,
      p,
    )
    (and_true _)

-- all epochs are within the bound: the index decides
pub epochs_index : (e : Books) → e.epoch ≤ BOUND → e.earliest_exit_epoch ≤ BOUND
    → e.earliest_consolidation_epoch ≤ BOUND → every epochs_within e.validators ≡ true
    → every partial_epoch_within e.pending_partial_withdrawals ≡ true
    → all_epochs_within e ≡ leb e.next_withdrawal_index BOUND
unfolding all_epochs_within all
epochs_index e n x c v p =
    rw (
      le-leb e.epoch BOUND n,
      le-leb e.earliest_exit_epoch BOUND x,
      le-leb e.earliest_consolidation_epoch BOUND c,
      v,
      p,
    )
    (and_true _)
