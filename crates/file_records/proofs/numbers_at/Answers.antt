use mathlib.Core.Path.{sym, ◌∙◌}
use native.Mathlib.Omega.{arith}
use Rattle.file_format.specs.Fields.{number}
use Rattle.file_format.proofs.AccessLaws.{fixed_number, many_good, many_value_at}
use Rattle.file_words.specs.Laws.{number_inside_at}
use Rattle.tables.specs.Filled.{filled_all}
use Rattle.file_records.proofs.numbers_at.Goals as goal

pub number_from-requires : goal.number_from-requires
number_from-requires g c =
    let good = many_good number 3 fixed_number _ c.loop-i.i _ (omega arith) c.requires in
    record { there = number_inside_at _ _ good; well_formed = good }

pub returns : goal.returns
returns g c = filled_all (omega arith) c.loop-i.invariant ∙ sym (many_value_at number 3 fixed_number _ _)
