-- What the consolidation step needs of accepted settings, room and books.
use Rattle.std.specs.Prelude.{◌≡◌, true, ◌≤◌, length}
use Rattle.std.proofs.Common.{arith}
use Rattle.lists.specs.Base.{every}
use Rattle.tables.specs.Rows.{length_rows}
use Rattle.rules.specs.Types.{BOUND, Settings}
use Rattle.rules.specs.EpochProcessing.{process_pending_consolidations}
use Rattle.rules.specs.Acceptance.{held, consolidation_in}
use Rattle.rule_laws.specs.Accepted.{SoundBooks}
use Rattle.primitives.specs.declared.Scalars.{Scalars}
use Rattle.records.specs.Layout.{validator_at}
use Rattle.records.specs.Layout.{identities_fit, validators_fit, deposits_fit, consolidations_fit}
use Rattle.records.specs.Books.{Tables, books_of, consolidations_of}
use Rattle.records.specs.Reading.{EnoughRoom, validators_count, consolidations_count}

pub record ConsolidationsReady (S : Settings) (s : Scalars) (t : Tables) : Type 0 where
  pub identities : s.validators ≤ identities_fit t.identities
  pub validators : s.validators ≤ validators_fit t.validators
  pub consolidations : s.consolidations ≤ consolidations_fit t.consolidations
  pub known : every (consolidation_in s.validators) (consolidations_of s t.consolidations) ≡ true
  pub held_small : held (books_of s t) ≤ BOUND
  pub room : length (process_pending_consolidations S (books_of s t)).pending_balance_deposits
      ≤ deposits_fit t.deposits

module _ (S : Settings) (s : Scalars) (t : Tables) (k : SoundBooks S (books_of s t)) where
  consolidations_known : every (consolidation_in s.validators) (consolidations_of s t.consolidations) ≡ true
  unfolding books_of
  consolidations_known =
      rw (length_rows s.validators (validator_at t.identities t.validators)) at k.consolidations_in

  pub consolidations_ready : EnoughRoom S t
      → length (process_pending_consolidations S (books_of s t)).pending_balance_deposits
      ≤ S.pending_balance_deposits_limit
      → ConsolidationsReady S s t
  consolidations_ready room fits = record {
    identities = omega (arith, k.registry_fits, room.identities, validators_count s t);
    validators = omega (arith, k.registry_fits, room.validators, validators_count s t);
    consolidations = omega (arith, k.consolidations_fit, room.consolidations, consolidations_count s t);
    known = consolidations_known;
    held_small = k.held_small;
    room = omega (arith, fits, room.deposits);
  }
