-- `calls_reader::request_ok` meets its contract.
use Rattle.std.proofs.Common.{rules}
use Rattle.calls_reader.specs.Laws.{request_judged}
use Rattle.calls_reader.proofs.request_ok.Goals as goal

pub returns : goal.returns
returns c = search (request_judged, rules)
