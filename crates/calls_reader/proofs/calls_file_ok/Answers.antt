-- `calls_reader::calls_file_ok` meets its contract.
use Rattle.std.proofs.Common.{rules}
use Rattle.calls_reader.specs.Laws.{file_judged}
use Rattle.calls_reader.proofs.calls_file_ok.Goals as goal

pub returns : goal.returns
returns c = search (file_judged, rules)
