use borrow.Author.Rules.{rules}
use Rattle.calls_writer.specs.Listed.{listed_none, listed_more, listed_done}
use Rattle.calls_writer.proofs.put_list.Goals as goal

pub loop-i-init : goal.loop-i-init
loop-i-init c = listed_none _ _ _

pub loop-i-preserved : goal.loop-i-preserved
loop-i-preserved c = search (listed_more, rules)

pub returns : goal.returns
returns c = search (listed_done, rules)
