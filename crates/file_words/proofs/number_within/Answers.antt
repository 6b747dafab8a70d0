-- `file_words::number_within` meets its contract.
use Rattle.std.proofs.Common.{rules}
use Rattle.file_words.specs.Laws.{number_judged}
use Rattle.file_words.proofs.number_within.Goals as goal

pub returns : goal.returns
returns c = search (number_judged, rules)
