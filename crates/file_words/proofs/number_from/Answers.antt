-- `file_words::number_from` meets its contract.
use Rattle.std.proofs.Common.{rules}
use Rattle.file_words.specs.Laws.{top_small_at, number_made_at}
use Rattle.file_words.proofs.number_from.Goals as goal

pub joined-requires : goal.joined-requires
joined-requires c = search (top_small_at, rules)

pub returns : goal.returns
returns c = search (number_made_at, rules)
