use native.Mathlib.Omega.{arith}
use Rattle.tables.specs.Rows.{rows}
use Rattle.file_format.proofs.PlacesLaws.{validator_at, numbers_at}
use Rattle.file_records.specs.Laws.{validator_numbers}
use Rattle.table_stores.proofs.store_words.Goals as goal

pub numbers_at-requires : goal.numbers_at-requires
numbers_at-requires c = (omega arith, rw c.behind-2.ensures (validator_numbers _ c.requires.well_formed))

pub returns : goal.returns
unfolding rows
returns c =
    simp (
      validator_at,
      c.put_row.ensures,
      c.flag_at-slashed.ensures,
      c.behind.ensures,
      c.numbers_at.ensures,
      c.behind-2.ensures,
      numbers_at,
    )
