-- What the stores of a file's records into the lent tables promise.
use Rattle.std.specs.Prelude.{◌≡◌, List, ℕ, ◌*◌, ◌≤◌, length, drop}
use Rattle.tables.specs.Rows.{rows}
use Rattle.primitives.specs.declared.Scalars.{Scalars}
use Rattle.records.specs.Layout.{validator_at, deposit_at, partial_at, consolidation_at}
use Rattle.records.specs.Layout.{identities_fit, validators_fit, deposits_fit, partials_fit, consolidations_fit}
use Rattle.records.specs.Layout.{identities_past, validators_past}
use Rattle.records.specs.Books.{Tables, books_of, Beyond}
use Rattle.file_format.specs.Books.{validator, deposit, partial, consolidation}
use Rattle.file_format.specs.Places.{books_at}
use Rattle.file_records.specs.Lists.{records_from}

-- the first n records of a table are n records of the file, and the words past them are as they were
pub record Stored {A : Type 0} (decode : List ℕ → ℕ → A) (width n : ℕ) (xs : List A) (old new : List ℕ) : Type 0 where
  pub size : length new ≡ length old
  pub records : rows n (decode new) ≡ xs
  pub past : drop (width * n) new ≡ drop (width * n) old

abbrev pub DepositsStored : (ws : List ℕ) (n : ℕ) (old new : List ℕ) → Type 0
DepositsStored ws n = Stored deposit_at 2 n (records_from deposit 6 n ws)

abbrev pub PartialsStored : (ws : List ℕ) (n : ℕ) (old new : List ℕ) → Type 0
PartialsStored ws n = Stored partial_at 3 n (records_from partial 9 n ws)

abbrev pub ConsolidationsStored : (ws : List ℕ) (n : ℕ) (old new : List ℕ) → Type 0
ConsolidationsStored ws n = Stored consolidation_at 2 n (records_from consolidation 6 n ws)

-- the same of the registry's two tables
pub record ValidatorsStored (ws : List ℕ) (n : ℕ) (ids vs new_ids new_vs : List ℕ) : Type 0 where
  pub identities_size : length new_ids ≡ length ids
  pub validators_size : length new_vs ≡ length vs
  pub validators : rows n (validator_at new_ids new_vs) ≡ records_from validator 46 n ws
  pub identities_past : identities_past n new_ids ≡ identities_past n ids
  pub validators_past : validators_past n new_vs ≡ validators_past n vs

-- the tables have room for the records that s counts
pub record Fits (s : Scalars) (t : Tables) : Type 0 where
  pub identities : s.validators ≤ identities_fit t.identities
  pub validators : s.validators ≤ validators_fit t.validators
  pub deposits : s.deposits ≤ deposits_fit t.deposits
  pub partials : s.partials ≤ partials_fit t.partials
  pub consolidations : s.consolidations ≤ consolidations_fit t.consolidations

-- the tables hold the books of the file, and beyond them what they held
pub record BooksStored (ws : List ℕ) (s : Scalars) (t u : Tables) : Type 0 where
  pub books : books_of s u ≡ books_at ws
  pub beyond : Beyond s u t
