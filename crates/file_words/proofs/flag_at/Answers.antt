use Rattle.std.proofs.Common.{rules}
use Rattle.file_words.specs.Laws.{flag_made}
use Rattle.file_words.proofs.flag_at.Goals as goal

pub returns : goal.returns
returns c = search (flag_made, rules)
