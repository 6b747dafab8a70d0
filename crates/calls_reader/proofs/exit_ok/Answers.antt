-- `calls_reader::exit_ok` meets its contract.
use Rattle.std.proofs.Common.{rules}
use Rattle.calls_reader.specs.Laws.{exit_judged}
use Rattle.calls_reader.proofs.exit_ok.Goals as goal

pub returns : goal.returns
returns c = search (exit_judged, rules)
