-- `file_words::end_ok` meets its contract.
use Rattle.std.proofs.Common.{rules}
use Rattle.file_words.specs.Laws.{ends_not, ends_so}
use Rattle.file_words.proofs.end_ok.Goals as goal

pub returns : goal.returns
returns c = search (ends_so, rules)
