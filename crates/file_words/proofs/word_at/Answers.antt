-- `file_words::word_at` meets its contract.
use Rattle.std.proofs.Common.{rules}
use Rattle.file_words.specs.Laws.{word_none}
use Rattle.file_words.proofs.word_at.Goals as goal

pub returns : goal.returns
returns c = search (word_none, rules)
