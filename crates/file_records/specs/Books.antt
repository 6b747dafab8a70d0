-- The books of a books file: its scalars as the declared struct, and its four lists.
use Rattle.std.specs.Prelude.{◌≡◌, refl, List, ℕ}
use Rattle.std.proofs.Math.Path.{ap}
use Rattle.tables.specs.Rows.{rows}
use Rattle.rules.specs.Types.{Validator}
use Rattle.rules.specs.Types.{PendingBalanceDeposit, PendingPartialWithdrawal, PendingConsolidation}
use Rattle.primitives.specs.declared.Scalars.{Scalars}
use Rattle.acceptance.specs.Sound.{books_with}
use Rattle.file_format.specs.Books.{validator, deposit, partial, consolidation}
use Rattle.file_format.specs.Places.{count_at, listed, books_at}
use Rattle.file_format.specs.Places.{deposits_place, partials_place, consolidations_place}
use Rattle.file_records.specs.Scalars.{scalars_at}

-- ---- the counts, from the scalars

module _ (ws : List ℕ) {s : Scalars} (e : s ≡ scalars_at ws) where
  pub validators_counted : s.validators ≡ count_at ws 85
  unfolding scalars_at
  validators_counted = ap (λ x. x.validators) e

  pub deposits_counted : s.deposits ≡ count_at ws (deposits_place ws)
  unfolding scalars_at
  deposits_counted = ap (λ x. x.deposits) e

  pub partials_counted : s.partials ≡ count_at ws (partials_place ws)
  unfolding scalars_at
  partials_counted = ap (λ x. x.partials) e

  pub consolidations_counted : s.consolidations ≡ count_at ws (consolidations_place ws)
  unfolding scalars_at
  consolidations_counted = ap (λ x. x.consolidations) e

-- ---- the lists

abbrev pub file_validators : List ℕ → List Validator
file_validators ws = listed validator 46 85 ws

abbrev pub file_deposits : List ℕ → List PendingBalanceDeposit
file_deposits ws = listed deposit 6 (deposits_place ws) ws

abbrev pub file_partials : List ℕ → List PendingPartialWithdrawal
file_partials ws = listed partial 9 (partials_place ws) ws

abbrev pub file_consolidations : List ℕ → List PendingConsolidation
file_consolidations ws = listed consolidation 6 (consolidations_place ws) ws

pub file_books : (ws : List ℕ)
    → books_with (scalars_at ws) (file_validators ws) (file_deposits ws) (file_partials ws) (file_consolidations ws)
    ≡ books_at ws
unfolding scalars_at rows
file_books ws = refl
