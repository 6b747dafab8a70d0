use Rattle.std.proofs.Common.{rules}
use Rattle.file_stores.specs.Laws.{field_word_made}
use Rattle.file_stores.proofs.field_word.Goals as goal

pub returns : goal.returns
returns c = search (field_word_made, rules)
