use native.Mathlib.Omega.{arith}
use Rattle.file_format.proofs.PlacesLaws.{numbers_at}
use Rattle.file_records.specs.Laws.{file_good}
use Rattle.file_records.proofs.settings_at.Goals as goal

pub numbers_at-requires : goal.numbers_at-requires
numbers_at-requires c = (omega arith, rw c.behind.ensures (file_good _ c.args.file.good).settings_good)

pub returns : goal.returns
returns c = rw (c.from.ensures, c.numbers_at.ensures, c.behind.ensures, numbers_at)
