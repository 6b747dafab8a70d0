-- The numbers that are read are those of the record.
use native.Mathlib.Omega.{arith}
use Rattle.tables.specs.Rows.{rows}
use Rattle.file_format.proofs.PlacesLaws.{validator_at, numbers_at}
use Rattle.file_records.specs.Laws.{validator_numbers}
use Rattle.file_acceptance.proofs.amounts.validator_within.Goals as goal

pub numbers_at-requires : goal.numbers_at-requires
numbers_at-requires c = (omega arith, rw c.behind-2.ensures (validator_numbers _ c.requires))

pub returns : goal.returns
unfolding rows
returns c =
    simp (
      validator_at,
      c.epochs_within-epochs.ensures,
      c.flag_at-slashed.ensures,
      c.behind.ensures,
      c.numbers_at.ensures,
      c.behind-2.ensures,
      numbers_at,
    )
