-- What the effective balance step needs of accepted settings, room and books.
use Rattle.std.specs.Prelude.{List, ℕ, ◌≤◌, ◌<◌}
use native.Mathlib.Omega.{arith}
use borrow.Author.Tests.{leb-true}
use Rattle.tables.specs.Totals.{total_at_most}
use Rattle.tables.specs.Tests.{every_row}
use Rattle.rules.specs.Types.{BOUND, Settings, Validator}
use Rattle.rules.specs.Acceptance.{effective_within}
use Rattle.rule_laws.specs.Accepted.{SoundBooks}
use Rattle.primitives.specs.declared.Scalars.{Scalars}
use Rattle.records.specs.Layout.{validator_at, effective_balance_at, balance_at}
use Rattle.records.specs.Layout.{identities_fit, validators_fit}
use Rattle.records.specs.Books.{Tables, books_of}
use Rattle.records.specs.Reading.{EnoughRoom, validators_count}

abbrev balance_of : Validator → ℕ
balance_of v = v.balance

pub record UpdatesReady (S : Settings) (s : Scalars) (ids vs : List ℕ) : Type 0 where
  pub identities : s.validators ≤ identities_fit ids
  pub validators : s.validators ≤ validators_fit vs
  pub balances : (i : ℕ) → i < s.validators → balance_at vs i ≤ BOUND
  pub effective : (i : ℕ) → i < s.validators → effective_balance_at vs i ≤ S.max_effective_balance_electra

module _ (S : Settings) (s : Scalars) (t : Tables) (k : SoundBooks S (books_of s t)) where
  balance_small : (i : ℕ) → i < s.validators → balance_at t.validators i ≤ BOUND
  unfolding books_of
  balance_small i h =
      omega (
        arith,
        k.held_small,
        total_at_most balance_of s.validators (validator_at t.identities t.validators) i h,
      )

  effective_small : (i : ℕ) → i < s.validators
      → effective_balance_at t.validators i ≤ S.max_effective_balance_electra
  unfolding books_of
  effective_small i h =
      leb-true (effective_balance_at t.validators i) S.max_effective_balance_electra
      (every_row (effective_within S) s.validators (validator_at t.identities t.validators) k.effective i h)

  pub updates_ready : EnoughRoom S t → UpdatesReady S s t.identities t.validators
  updates_ready room = record {
    identities = omega (arith, k.registry_fits, room.identities, validators_count s t);
    validators = omega (arith, k.registry_fits, room.validators, validators_count s t);
    balances = balance_small;
    effective = effective_small;
  }
