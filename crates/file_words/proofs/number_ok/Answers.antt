-- `file_words::number_ok` meets its contract.
use Rattle.std.proofs.Common.{rules}
use Rattle.file_words.specs.Laws.{number_outside}
use Rattle.file_words.proofs.number_ok.Goals as goal

pub returns-then-rest-lt3 : goal.returns-then-rest-lt3
returns-then-rest-lt3 c = search (number_outside, rules)
