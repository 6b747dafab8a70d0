-- What the deposit step needs of accepted settings, room and books.
use Rattle.std.specs.Prelude.{◌≡◌, refl, true, List, ℕ, ◌+◌, ◌≤◌, ◌^◌}
use native.Mathlib.Omega.{arith}
use Rattle.lists.specs.Base.{every}
use Rattle.tables.specs.Rows.{length_rows}
use Rattle.tables.specs.Totals.{total_ext}
use Rattle.rules.specs.Types.{BOUND, Settings, Validator}
use Rattle.rules.specs.Helpers.{get_activation_exit_churn_limit}
use Rattle.rules.specs.Acceptance.{deposit_amounts, deposit_in}
use Rattle.rule_laws.specs.Accepted.{SoundSettings, SoundBooks}
use Rattle.rule_laws.specs.Churn.{activation_exit_churn_small}
use Rattle.primitives.specs.declared.Scalars.{Scalars}
use Rattle.records.specs.Layout.{validator_at}
use Rattle.records.specs.Layout.{validators_fit, deposits_fit}
use Rattle.records.specs.Books.{Tables, books_of, deposits_of, validators_of}
use Rattle.records.specs.Reading.{EnoughRoom, validators_count, deposits_count}
use Rattle.pending_deposits.specs.Deposits.{validator_balances}

abbrev balance_of : Validator → ℕ
balance_of v = v.balance

pub record DepositsReady (S : Settings) (s : Scalars) (t : Tables) : Type 0 where
  pub validators : s.validators ≤ validators_fit t.validators
  pub deposits : s.deposits ≤ deposits_fit t.deposits
  pub known : every (deposit_in s.validators) (deposits_of s t.deposits) ≡ true
  pub sums : (ids : List ℕ)
      → validator_balances (validators_of s ids t.validators)
      + deposit_amounts (deposits_of s t.deposits)
      ≤ BOUND
  pub carry : s.deposit_balance_to_consume.0 ≤ BOUND
  pub allowance : get_activation_exit_churn_limit S (books_of s t) ≤ 2 ^ 44

module _ (S : Settings) (s : Scalars) (t : Tables) (k : SoundBooks S (books_of s t)) where
  deposits_known : every (deposit_in s.validators) (deposits_of s t.deposits) ≡ true
  unfolding books_of
  deposits_known = rw (length_rows s.validators (validator_at t.identities t.validators)) at k.deposits_in

  deposits_sums : (ids : List ℕ)
      → validator_balances (validators_of s ids t.validators)
      + deposit_amounts (deposits_of s t.deposits)
      ≤ BOUND
  unfolding books_of
  deposits_sums ids =
      omega (
        arith,
        k.held_small,
        total_ext balance_of balance_of s.validators (validator_at ids t.validators)
            (validator_at t.identities t.validators) (λ i p. refl),
      )

  carry_small : s.deposit_balance_to_consume.0 ≤ BOUND
  unfolding books_of
  carry_small = k.carry_small

  pub deposits_ready : SoundSettings S → EnoughRoom S t → DepositsReady S s t
  deposits_ready σ room = record {
    validators = omega (arith, k.registry_fits, room.validators, validators_count s t);
    deposits = omega (arith, k.deposits_fit, room.deposits, deposits_count s t);
    known = deposits_known;
    sums = deposits_sums;
    carry = carry_small;
    allowance = activation_exit_churn_small S (books_of s t) σ;
  }
