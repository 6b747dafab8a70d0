-- Books, where all that the count of excess entries reads of them stands in the validators' words and in the
-- switchable balances.
use Rattle.std.specs.Prelude.{◌≡◌, refl, ℕ, ◌+◌, ◌≤◌, ◌<◌, List, drop}
use Rattle.std.proofs.Math.Path.{ap}
use Rattle.std.proofs.Common.{◌∙◌}
use Rattle.std.proofs.Math.ListN.{length}
use Rattle.tables.specs.Rows.{length_rows}
use Rattle.rules.specs.Types.{Settings, Validator, PendingBalanceDeposit, PendingConsolidation, Books}
use Rattle.rules.specs.Helpers.{at, get_activation_exit_churn_limit}
use Rattle.rules.specs.EpochProcessing.{Deposited, process_deposits, process_pending_balance_deposits, consolidate}
use Rattle.rules.specs.Counting.{affordable}
use Rattle.rule_laws.specs.Switch.{consolidate_count}
use Rattle.primitives.specs.declared.Scalars.{Scalars}
use Rattle.records.specs.Layout.{validator_at, slashed_at, withdrawable_epoch_at}
use Rattle.records.specs.Books.{Tables, books_of, validators_of, deposits_of}
use Rattle.records.specs.Reading.{validators_count, validator_read}
use Rattle.rule_laws.specs.Deposits.{process_deposits_form, credit_length}
use Rattle.queue_room.specs.Laws.{deposits_keep, consolidate_keeps, consolidate_epoch}
use Rattle.queue_room.specs.Balances.{Switchable, consolidated_balances, switchable_consolidate}

pub record Represented (s : Scalars) (ws w : List ℕ) (b : Books) : Type 0 where
  pub epoch : b.epoch ≡ s.epoch.0
  pub size : length b.validators ≡ s.validators
  pub slashed : (j : ℕ) → j < s.validators → (at b.validators j).slashed ≡ slashed_at ws j
  pub withdrawable : (j : ℕ) → j < s.validators
      → (at b.validators j).withdrawable_epoch ≡ withdrawable_epoch_at ws j
  pub balances : Switchable s.validators b.validators w

abbrev slashed_of : Validator → ℕ
slashed_of v = v.slashed

abbrev withdrawable_of : Validator → ℕ
withdrawable_of v = v.withdrawable_epoch

-- after one consolidation
pub represented_consolidate : (S : Settings) {s : Scalars} {ws w : List ℕ} {b : Books} (c : PendingConsolidation)
    → s.validators ≤ length w → c.source_index < s.validators → c.target_index < s.validators
    → Represented s ws w b
    → Represented s ws (consolidated_balances S.min_activation_balance c.source_index c.target_index w)
    (consolidate S c b)
represented_consolidate S {s} {ws} {w} {b} c h source target k = record {
  epoch = consolidate_epoch S c b ∙ k.epoch;
  size = consolidate_count S c b ∙ k.size;
  slashed = λ j p. consolidate_keeps slashed_of (λ n v. refl) (λ n v. refl) S c b j ∙ k.slashed j p;
  withdrawable =
      λ j p. consolidate_keeps withdrawable_of (λ n v. refl) (λ n v. refl) S c b j ∙ k.withdrawable j p;
  balances = switchable_consolidate S c b h k.size source target k.balances;
}

-- what the deposit loop leaves of the tables
abbrev pub deposited : Scalars → Tables → ℕ → Deposited
deposited s t available =
    process_deposits available 0 (deposits_of s t.deposits)
    (validators_of s t.identities t.validators)

-- w holds the switchable balances after the deposit loop over ds, which credits the first k
pub record DepositsProcessed (available n : ℕ) (ds : List PendingBalanceDeposit) (vs : List Validator) (w : List ℕ)
    (k : ℕ) : Type 0 where
  pub balances : Switchable n (process_deposits available 0 ds vs).validators w
  pub waiting : (process_deposits available 0 ds vs).waiting ≡ drop k ds
  pub most : k ≤ length ds

-- the books of the tables
module _ (s : Scalars) (t : Tables) where
  pub represented_books : {w : List ℕ}
      → Switchable s.validators (validators_of s t.identities t.validators) w
      → Represented s t.validators w (books_of s t)
  unfolding books_of
  represented_books h = record {
    epoch = refl;
    size = validators_count s t;
    slashed = λ j p. ap slashed_of (validator_read s t j p);
    withdrawable = λ j p. ap withdrawable_of (validator_read s t j p);
    balances = h;
  }

  -- and after the deposit step
  pub represented_deposits : (S : Settings) (available : ℕ) {w : List ℕ}
      → available ≡ (books_of s t).deposit_balance_to_consume + get_activation_exit_churn_limit S (books_of s t)
      → Switchable s.validators (deposited s t available).validators w
      → Represented s t.validators w (process_pending_balance_deposits S (books_of s t))
  unfolding books_of process_pending_balance_deposits
  represented_deposits S available {w} e h =
      let vs = validators_of s t.identities t.validators in
      let ds = deposits_of s t.deposits in
      let a = (books_of s t).deposit_balance_to_consume + get_activation_exit_churn_limit S (books_of s t) in
      record {
        epoch = refl;
        size =
            ap (λ (d : Deposited). length d.validators) (process_deposits_form a 0 ds vs)
            ∙ credit_length (affordable a 0 ds) vs
            ∙ length_rows s.validators (validator_at t.identities t.validators);
        slashed = λ j p. deposits_keep slashed_of (λ n v. refl) a 0 ds vs j ∙ ap slashed_of (validator_read s t j p);
        withdrawable = λ j p.
            deposits_keep withdrawable_of (λ n v. refl) a 0 ds vs j ∙ ap withdrawable_of (validator_read s t j p);
        balances = rw e at h;
      }
