-- What the functions require, as facts of the scalars and of the tables that they take; each comes from accepted
-- settings and books in buffers with enough room.
use Rattle.std.specs.Prelude.{List, ℕ, ◌≤◌, ◌<◌, ◌^◌}
use Rattle.std.proofs.Common.{arith}
use borrow.Author.Tests.{leb-true}
use Rattle.lists.specs.Base.{total}
use Rattle.lists.specs.Laws.{by_test}
use Rattle.tables.specs.Tests.{every_row}
use Rattle.tables.specs.Totals.{total_bound}
use Rattle.rules.specs.Types.{BOUND, Settings, PendingPartialWithdrawal}
use Rattle.rules.specs.Helpers.{active_effective_balance}
use Rattle.rules.specs.Acceptance.{effective_within}
use Rattle.rule_laws.specs.Accepted.{SoundSettings, SoundBooks}
use Rattle.primitives.specs.declared.Scalars.{Scalars}
use Rattle.records.specs.Layout.{effective_balance_at, validator_at}
use Rattle.records.specs.Layout.{identities_fit, validators_fit, partials_fit}
use Rattle.records.specs.Books.{Tables, books_of, partials_of, validators_of}
use Rattle.records.specs.Reading.{EnoughRoom, validators_count, partials_count}

-- the validators stand in their table, and their effective balances add up
pub record Registry (s : Scalars) (vs : List ℕ) : Type 0 where
  pub fit : s.validators ≤ validators_fit vs
  pub most : s.validators ≤ 65536
  pub effective : (i : ℕ) → i < s.validators → effective_balance_at vs i ≤ 2 ^ 44

-- the epoch, and the earliest epochs of the two churn accounts
pub record Accounts (s : Scalars) : Type 0 where
  pub epoch : s.epoch.0 ≤ BOUND
  pub exit_epoch : s.earliest_exit_epoch.0 ≤ BOUND
  pub consolidation_epoch : s.earliest_consolidation_epoch.0 ≤ BOUND

-- the partial withdrawals stand in their table, and their amounts add up
pub record Partials (s : Scalars) (ps : List ℕ) : Type 0 where
  pub fit : s.partials ≤ partials_fit ps
  pub amounts : total (λ (p : PendingPartialWithdrawal). p.amount) (partials_of s ps) ≤ BOUND

-- ---- from accepted settings and books

module _ (S : Settings) (s : Scalars) (t : Tables) (σ : SoundSettings S) (ρ : EnoughRoom S t)
    (β : SoundBooks S (books_of s t)) where
  pub registry_ready : Registry s t.validators
  unfolding books_of
  registry_ready = record {
    fit = omega (arith, validators_count s t);
    most = omega (arith, validators_count s t, σ.registry_limit.most);
    effective = λ i h. omega (arith, σ.max_effective_balance, within i h);
  }
    where
      within : (i : ℕ) → i < s.validators
          → effective_balance_at t.validators i ≤ S.max_effective_balance_electra
      within i h =
          leb-true (effective_balance_at t.validators i) S.max_effective_balance_electra
          (every_row (effective_within S) s.validators (validator_at t.identities t.validators)
          β.effective i h)

  pub accounts_ready : Accounts s
  unfolding books_of
  accounts_ready = record {
    epoch = β.epoch_small;
    exit_epoch = β.exit_epoch_small;
    consolidation_epoch = β.consolidation_epoch_small;
  }

  pub partials_ready : Partials s t.partials
  unfolding books_of
  partials_ready = record {
    fit = omega (arith, partials_count s t);
    amounts = β.partials_small;
  }

  pub identities_ready : s.validators ≤ identities_fit t.identities
  identities_ready = omega (arith, validators_count s t)

-- ---- what they give

-- the active effective balances add up to at most 2^60
pub active_small : {s : Scalars} {vs : List ℕ} → Registry s vs → (epoch : ℕ) (ids : List ℕ)
    → total (active_effective_balance epoch) (validators_of s ids vs) ≤ 2 ^ 60
active_small {s} {vs} k epoch ids =
    omega (
      arith,
      total_bound (active_effective_balance epoch) (2 ^ 44) s.validators (validator_at ids vs) (λ i h.
          by_test (λ (x : ℕ). x ≤ 2 ^ 44) _ (λ e. k.effective i h) (λ e. omega arith)),
    )
