-- `calls_reader::calls_end_ok` meets its contract.
use Rattle.std.proofs.Common.{rules}
use Rattle.calls_reader.specs.Laws.{calls_end_stopped}
use Rattle.calls_reader.specs.Laws.{calls_end_more, calls_end_done}
use Rattle.calls_reader.proofs.calls_end_ok.Goals as goal

pub returns-then-not-call_ok : goal.returns-then-not-call_ok
returns-then-not-call_ok c = search (calls_end_stopped, rules)

pub loop-i-preserved : goal.loop-i-preserved
loop-i-preserved c = search (calls_end_more, rules)

pub returns : goal.returns
returns c = search (calls_end_done, rules)
