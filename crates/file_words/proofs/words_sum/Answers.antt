-- `file_words::words_sum` meets its contract.
use Rattle.std.proofs.Common.{rules}
use Rattle.file_words.specs.Laws.{sum_more}
use Rattle.file_words.proofs.words_sum.Goals as goal

pub loop-i-preserved : goal.loop-i-preserved
loop-i-preserved c = search (sum_more, rules)
