-- `file_words::behind` meets its contract.
use Rattle.std.proofs.Common.{rules}
use Rattle.file_words.specs.Laws.{words_behind}
use Rattle.file_words.proofs.behind.Goals as goal

pub returns : goal.returns
returns c = search (words_behind, rules)
