use native.Mathlib.Omega.{arith}
use Rattle.file_format.proofs.PlacesLaws.{numbers_at}
use Rattle.tables.specs.Rows.{rows}
use Rattle.file_format.specs.Words.{words}
use Rattle.file_format.specs.Places.{deposits_place, partials_place, consolidations_place}
use Rattle.file_records.specs.Laws.{file_good, list_count}
use Rattle.file_records.specs.Scalars.{scalars_at}
use Rattle.file_records.proofs.scalars_at.Goals as goal

pub numbers_at-first-requires : goal.numbers_at-first-requires
numbers_at-first-requires c = (omega arith, rw c.behind.ensures (file_good _ c.args.file.good).scalars_good)

pub returns : goal.returns
unfolding rows scalars_at
returns c =
    let ws = words c.args.file.bytes.now in
    let lists = c.lists_of-lists.ensures in
    rw (
      c.from.ensures,
      c.copy_from_slice.ensures.after,
      c.numbers_at-first.ensures,
      c.behind.ensures,
      numbers_at,
      list_count 85 ws lists.validators c.count_at.ensures,
      list_count (deposits_place ws) ws lists.deposits c.count_at-2.ensures,
      list_count (partials_place ws) ws lists.partials c.count_at-3.ensures,
      list_count (consolidations_place ws) ws lists.consolidations c.count_at-4.ensures,
    )
