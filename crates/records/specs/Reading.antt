-- What the books of scalars and tables are read as: the epoch, counts, records, and the room that the limits need.
use Rattle.std.specs.Prelude.{◌≡◌, true, ℕ, ◌≤◌, ◌<◌, length}
use Rattle.std.proofs.Math.Path.{refl}
use Rattle.std.proofs.Common.{arith, leb-true, le-leb}
use Rattle.lists.specs.Laws.{nth, all_none, all_more}
use Rattle.tables.specs.Rows.{length_rows, get_d_rows}
use Rattle.rules.specs.Types.{Settings}
use Rattle.rules.specs.Helpers.{at, count, no_validator}
use Rattle.rules.specs.Calls.{enough_room}
use Rattle.primitives.specs.declared.Scalars.{Scalars}
use Rattle.records.specs.Layout.{validator_at, deposit_at, partial_at, consolidation_at}
use Rattle.records.specs.Layout.{identities_fit, validators_fit, deposits_fit, partials_fit, consolidations_fit}
use Rattle.records.specs.Books.{Tables, books_of, room_of}

-- ---- the epoch, counts and records

module _ (s : Scalars) (t : Tables) where
  pub epoch_read : (books_of s t).epoch ≡ s.epoch.0
  unfolding books_of
  epoch_read = refl

  pub validators_count : count (books_of s t) ≡ s.validators
  unfolding books_of
  validators_count = length_rows s.validators (validator_at t.identities t.validators)

  pub deposits_count : length (books_of s t).pending_balance_deposits ≡ s.deposits
  unfolding books_of
  deposits_count = length_rows s.deposits (deposit_at t.deposits)

  pub partials_count : length (books_of s t).pending_partial_withdrawals ≡ s.partials
  unfolding books_of
  partials_count = length_rows s.partials (partial_at t.partials)

  pub consolidations_count : length (books_of s t).pending_consolidations ≡ s.consolidations
  unfolding books_of
  consolidations_count = length_rows s.consolidations (consolidation_at t.consolidations)

  pub validator_read : (i : ℕ) → i < s.validators
      → at (books_of s t).validators i ≡ validator_at t.identities t.validators i
  unfolding books_of
  validator_read i h = get_d_rows s.validators (validator_at t.identities t.validators) i no_validator h

-- ---- room

-- no buffer is shorter than its limit
pub record EnoughRoom (S : Settings) (t : Tables) : Type 0 where
  pub identities : S.validator_registry_limit ≤ identities_fit t.identities
  pub validators : S.validator_registry_limit ≤ validators_fit t.validators
  pub deposits : S.pending_balance_deposits_limit ≤ deposits_fit t.deposits
  pub partials : S.pending_partial_withdrawals_limit ≤ partials_fit t.partials
  pub consolidations : S.pending_consolidations_limit ≤ consolidations_fit t.consolidations

pub room : (S : Settings) (t : Tables) → enough_room S (room_of t) ≡ true → EnoughRoom S t
unfolding enough_room
room S t e =
    let both_fit = leb-true S.validator_registry_limit (room_of t).validators (nth _ e 0) in
    record {
      identities = omega arith;
      validators = omega arith;
      deposits = leb-true _ _ (nth _ e 1);
      partials = leb-true _ _ (nth _ e 2);
      consolidations = leb-true _ _ (nth _ e 3);
    }

pub room_so : (S : Settings) (t : Tables) → EnoughRoom S t → enough_room S (room_of t) ≡ true
unfolding enough_room
room_so S t k =
    all_more _ _ (le-leb S.validator_registry_limit (room_of t).validators (omega arith))
    (all_more _ _ (le-leb _ _ k.deposits)
    (all_more _ _ (le-leb _ _ k.partials)
    (all_more _ _ (le-leb _ _ k.consolidations) all_none)))
