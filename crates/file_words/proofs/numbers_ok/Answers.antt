-- `file_words::numbers_ok` meets its contract.
use Rattle.std.proofs.Common.{sym, refl, rules}
use Rattle.file_format.specs.Fields.{number}
use Rattle.file_format.proofs.AccessLaws.{fixed_number}
use Rattle.file_words.specs.Laws.{many_start, many_and, numbers_outside}
use Rattle.file_words.proofs.numbers_ok.Goals as goal

pub returns-then-rest-n : goal.returns-then-rest-n
returns-then-rest-n c = search (numbers_outside, rules)

pub loop-i-init : goal.loop-i-init
loop-i-init c = sym (many_start _ _)

pub loop-i-preserved : goal.loop-i-preserved
loop-i-preserved c =
    many_and number 3 fixed_number _ c.loop-i.i _ _ _ c.loop-i.invariant c.number_within-good.ensures refl
