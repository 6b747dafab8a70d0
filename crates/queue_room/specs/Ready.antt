-- What the two tests require of lent books, and that accepted books, in buffers with enough room, have it.
use Rattle.std.specs.Prelude.{◌≡◌, true, List, ℕ, ◌+◌, ◌^◌, ◌≤◌}
use Rattle.std.proofs.Common.{arith}
use Rattle.lists.specs.Base.{total, every}
use Rattle.rules.specs.Types as rule
use Rattle.rules.specs.Types.{BOUND}
use Rattle.rules.specs.Helpers.{count, get_activation_exit_churn_limit}
use Rattle.rules.specs.Acceptance.{deposit_amounts, deposit_in, consolidation_in}
use Rattle.rule_laws.specs.Accepted.{SoundSettings, SoundBooks}
use Rattle.primitives.specs.declared.Settings.{Settings}
use Rattle.primitives.specs.declared.Scalars.{Scalars}
use Rattle.primitives.specs.Settings.{settings_of}
use Rattle.records.specs.declared.books.Books.{Books}
use Rattle.records.specs.Layout.{identities_fit, validators_fit, deposits_fit, consolidations_fit}
use Rattle.records.specs.Books.{Tables, tables, books_of, validators_of, deposits_of, consolidations_of}
use Rattle.records.specs.Lent.{lent_tables, plain_books}
use Rattle.records.specs.Reading.{EnoughRoom, validators_count, deposits_count, consolidations_count}

-- ---- what is required

-- the records of three lent tables
abbrev pub lent_validators : Books → List rule.Validator
lent_validators b = validators_of b.scalars b.identities.now b.validators.now

abbrev pub lent_deposits : Books → List rule.PendingBalanceDeposit
lent_deposits b = deposits_of b.scalars b.deposits.now

abbrev pub lent_consolidations : Books → List rule.PendingConsolidation
lent_consolidations b = consolidations_of b.scalars b.consolidations.now

-- the books, with other words in two of the tables
abbrev pub books_with : Books → (deposits partials : List ℕ) → rule.Books
books_with b ds ps = books_of b.scalars (tables b.identities.now b.validators.now ds ps b.consolidations.now)

-- for the consolidation step; of the deposit queue it is known how many wait
pub record StepReady (b : Books) : Type 0 where
  pub most_validators : b.scalars.validators ≤ 65536
  pub identities : b.scalars.validators ≤ identities_fit b.identities.now
  pub validators : b.scalars.validators ≤ validators_fit b.validators.now
  pub most_deposits : b.scalars.deposits ≤ 65536
  pub most_consolidations : b.scalars.consolidations ≤ 65536
  pub consolidations : b.scalars.consolidations ≤ consolidations_fit b.consolidations.now
  pub consolidations_inside : every (consolidation_in b.scalars.validators) (lent_consolidations b) ≡ true

-- for a turn, which credits deposits first
pub record TurnReady (b : Books) : Type 0 where
  pub step : StepReady b
  pub deposits : b.scalars.deposits ≤ deposits_fit b.deposits.now
  pub deposits_inside : every (deposit_in b.scalars.validators) (lent_deposits b) ≡ true
  pub held_small : total (λ v. v.balance) (lent_validators b) + deposit_amounts (lent_deposits b) ≤ BOUND

-- how many deposits wait, by the settings' own limit
pub record QueueReady (S : Settings) (s : Scalars) : Type 0 where
  pub limit_most : S.pending_balance_deposits_limit ≤ 65536
  pub most : s.deposits ≤ S.pending_balance_deposits_limit

-- carry and allowance together
pub record AllowanceReady (S : Settings) (s : Scalars) : Type 0 where
  pub carry_small : s.deposit_balance_to_consume.0 ≤ BOUND
  pub max_churn : S.max_per_epoch_activation_exit_churn_limit.0 ≤ 2 ^ 44

pub available_small : {S : Settings} {s : Scalars} → AllowanceReady S s → (b : rule.Books) {allowance : ℕ}
    → allowance ≡ get_activation_exit_churn_limit (settings_of S) b
    → s.deposit_balance_to_consume.0 + allowance ≤ 2 ^ 63
unfolding get_activation_exit_churn_limit
available_small ready b e = omega (arith, ready.carry_small, ready.max_churn, e)

-- ---- accepted settings and books have it

module _ (S : rule.Settings) (b : Books) (σ : SoundSettings S) (room : EnoughRoom S (lent_tables b))
    (β : SoundBooks S (plain_books b)) where
  deposits_inside : every (deposit_in (count (plain_books b))) (lent_deposits b) ≡ true
  unfolding books_of
  deposits_inside = β.deposits_in

  consolidations_inside : every (consolidation_in (count (plain_books b))) (lent_consolidations b) ≡ true
  unfolding books_of
  consolidations_inside = β.consolidations_in

  pub step_ready : StepReady b
  unfolding books_of
  step_ready =
      let s = b.scalars in
      let t = lent_tables b in
      record {
        most_validators = omega (arith, β.registry_fits, validators_count s t, σ.registry_limit.most);
        identities = omega (arith, β.registry_fits, validators_count s t, room.identities);
        validators = omega (arith, β.registry_fits, validators_count s t, room.validators);
        most_deposits = omega (arith, β.deposits_fit, deposits_count s t, σ.deposits_limit.most);
        most_consolidations =
            omega (arith, β.consolidations_fit, consolidations_count s t, σ.consolidations_limit.most);
        consolidations = omega (arith, β.consolidations_fit, consolidations_count s t, room.consolidations);
        consolidations_inside = rw (validators_count s t) at consolidations_inside;
      }

  pub turn_ready : TurnReady b
  unfolding books_of
  turn_ready =
      let s = b.scalars in
      let t = lent_tables b in
      record {
        step = step_ready;
        deposits = omega (arith, β.deposits_fit, deposits_count s t, room.deposits);
        deposits_inside = rw (validators_count s t) at deposits_inside;
        held_small = β.held_small;
      }

pub allowance_ready : (S : Settings) (s : Scalars) (t : Tables) → SoundSettings (settings_of S)
    → SoundBooks (settings_of S) (books_of s t) → AllowanceReady S s
unfolding books_of
allowance_ready S s t σ β = record { carry_small = β.carry_small; max_churn = σ.max_churn }

pub queue_ready : (S : Settings) (s : Scalars) (t : Tables) → SoundSettings (settings_of S)
    → SoundBooks (settings_of S) (books_of s t) → QueueReady S s
queue_ready S s t σ β =
    record { limit_most = σ.deposits_limit.most; most = omega (arith, β.deposits_fit, deposits_count s t) }
