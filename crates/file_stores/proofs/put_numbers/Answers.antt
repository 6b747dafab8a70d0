use Rattle.std.proofs.Common.{rules}
use Rattle.file_stores.specs.Laws.{numbers_none, numbers_more, numbers_done}
use Rattle.file_stores.proofs.put_numbers.Goals as goal

pub loop-i-init : goal.loop-i-init
loop-i-init c = numbers_none _ _ _

pub loop-i-preserved : goal.loop-i-preserved
loop-i-preserved c = search (numbers_more, rules)

pub returns : goal.returns
returns c = search (numbers_done, rules)
