-- `file_words::word_within` meets its contract.
use Rattle.std.proofs.Common.{rules}
use Rattle.file_words.specs.Laws.{word_there}
use Rattle.file_words.proofs.word_within.Goals as goal

pub returns : goal.returns
returns c = search (word_there, rules)
