-- `file_words::field_ok` meets its contract.
use Rattle.std.proofs.Common.{rules}
use Rattle.file_words.specs.Laws.{field_full, field_one_left, field_two_left}
use Rattle.file_words.proofs.field_ok.Goals as goal

pub returns-then-left-eq0 : goal.returns-then-left-eq0
returns-then-left-eq0 c = search (field_full, rules)

pub returns-then-left-eq1 : goal.returns-then-left-eq1
returns-then-left-eq1 c = search (field_one_left, rules)

pub returns : goal.returns
returns c = search (field_two_left, rules)
