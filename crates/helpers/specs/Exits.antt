-- The churn accounts' assignments by name, and an exit in two steps: what it is assigned, and the store of that.
use Rattle.std.specs.Prelude.{◌≡◌, refl, List, ℕ, ◌+◌, ◌≤◌, ◌<◌, ◌^◌}
use Rattle.std.proofs.Common.{sym, ap, ◌∙◌, arith, eq-eqb}
use Rattle.lists.specs.Base.{when◌then◌else◌, adjust}
use Rattle.rules.specs.Types.{FAR, BOUND, Settings, Validator, Books}
use Rattle.rules.specs.Update.{with_exit, with_exit_churn, with_validators}
use Rattle.rules.specs.Helpers.{at, Assignment, assign_epoch, compute_activation_exit_epoch}
use Rattle.rules.specs.Helpers.{get_consolidation_churn_limit}
use Rattle.rules.specs.Helpers.{compute_exit_epoch_and_update_churn, compute_consolidation_epoch_and_update_churn}
use Rattle.rules.specs.Helpers.{initiate_validator_exit}
use Rattle.rule_laws.specs.Churn.{assigned_epoch}
use Rattle.primitives.specs.declared.Scalars.{Scalars}
use Rattle.primitives.specs.Scalars as scalars
use Rattle.records.specs.Layout.{exit_epoch_at}
use Rattle.records.specs.Stores.{ValidatorAdjusted}
use Rattle.records.specs.Books.{Tables, tables, books_of, Stepped}
use Rattle.records.specs.Reading.{validator_read}

-- ---- assignments

-- the consolidations' churn account, where the churn is known
unfoldable pub consolidation_assignment : Settings → Books → (churn amount : ℕ) → Assignment
consolidation_assignment S b churn amount =
    assign_epoch
    b.consolidation_balance_to_consume
    b.earliest_consolidation_epoch
    (compute_activation_exit_epoch S b)
    churn
    amount

pub consolidation_by_churn : (S : Settings) (b : Books) (amount : ℕ)
    → consolidation_assignment S b (get_consolidation_churn_limit S b) amount
    ≡ compute_consolidation_epoch_and_update_churn S b amount
unfolding consolidation_assignment compute_consolidation_epoch_and_update_churn
consolidation_by_churn S b amount = refl

-- what the exit of validator i is assigned
unfoldable pub exit_assignment : Settings → ℕ → Books → Assignment
exit_assignment S i b = compute_exit_epoch_and_update_churn S b (at b.validators i).effective_balance

-- no assigned epoch comes near FAR
pub assigned_near : (left earliest_epoch activation_exit_epoch churn amount : ℕ)
    → earliest_epoch ≤ BOUND → activation_exit_epoch ≤ BOUND + 2 ^ 17 → amount ≤ BOUND
    → (assign_epoch left earliest_epoch activation_exit_epoch churn amount).epoch + 2 ^ 16 < FAR
assigned_near left earliest_epoch activation_exit_epoch churn amount e a h =
    omega (arith, assigned_epoch left earliest_epoch activation_exit_epoch churn amount)

-- ---- the exit of a validator

-- what an exit with the assignment a stores
unfoldable pub begin_exit : Settings → ℕ → Assignment → Books → Books
begin_exit S i a b =
    let exiting = with_exit a.epoch (a.epoch + S.min_validator_withdrawability_delay) in
    with_exit_churn a.left a.epoch (with_validators (adjust i exiting b.validators) b)

module _ (S : Settings) (i : ℕ) (b : Books) where
  pub exit_in_steps : (at b.validators i).exit_epoch ≡ FAR
      → initiate_validator_exit S i b ≡ begin_exit S i (exit_assignment S i b) b
  unfolding initiate_validator_exit begin_exit exit_assignment when◌then◌else◌
  exit_in_steps h = rw (eq-eqb (at b.validators i).exit_epoch FAR h)

-- the same on tables
module _ (S : Settings) (i : ℕ) (s : Scalars) (t : Tables) (h : i < s.validators) where
  read : (at (books_of s t).validators i).exit_epoch ≡ exit_epoch_at t.validators i
  read = ap (λ (v : Validator). v.exit_epoch) (validator_read s t i h)

  pub exit_whole : {a : Assignment} {u : Tables} {r : Scalars} → exit_epoch_at t.validators i ≡ FAR
      → a ≡ exit_assignment S i (books_of s t) → Stepped (begin_exit S i a) s t u r
      → Stepped (initiate_validator_exit S i) s t u r
  exit_whole e same d = record {
    books =
        d.books
        ∙ ap (λ (x : Assignment). begin_exit S i x (books_of s t)) same
        ∙ sym (exit_in_steps S i (books_of s t) (read ∙ e));
    beyond = d.beyond;
  }

-- the stores of an exit
pub exit_stepped : (S : Settings) (i : ℕ) (a : Assignment) (s r : Scalars) (vs us : List ℕ) → i < s.validators
    → ValidatorAdjusted i (with_exit a.epoch (a.epoch + S.min_validator_withdrawability_delay)) vs us
    → r ≡ scalars.with_exit_churn s a.left a.epoch
    → (ids ds ps cs : List ℕ) → Stepped (begin_exit S i a) s (tables ids vs ds ps cs) (tables ids us ds ps cs) r
unfolding begin_exit books_of
exit_stepped S i a s r vs us h stored e ids ds ps cs =
    rw e (record {
      books = rw (stored.validators ids s.validators);
      beyond = record {
        identities = refl;
        validators = stored.past s.validators h;
        deposits = refl;
        partials = refl;
        consolidations = refl;
      };
    })
