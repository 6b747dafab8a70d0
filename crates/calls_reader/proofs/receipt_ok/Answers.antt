-- `calls_reader::receipt_ok` meets its contract.
use Rattle.std.proofs.Common.{rules}
use Rattle.calls_reader.specs.Laws.{receipt_judged}
use Rattle.calls_reader.proofs.receipt_ok.Goals as goal

pub returns : goal.returns
returns c = search (receipt_judged, rules)
