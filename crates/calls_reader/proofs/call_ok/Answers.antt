-- `calls_reader::call_ok` meets its contract.
use Rattle.std.proofs.Common.{rules}
use Rattle.calls_reader.specs.Laws.{call_judged}
use Rattle.calls_reader.proofs.call_ok.Goals as goal

pub returns : goal.returns
returns c = search (call_judged, rules)
