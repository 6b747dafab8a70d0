-- `calls_reader::consolidation_ok` meets its contract.
use Rattle.std.proofs.Common.{rules}
use Rattle.calls_reader.specs.Laws.{consolidation_judged}
use Rattle.calls_reader.proofs.consolidation_ok.Goals as goal

pub returns : goal.returns
returns c = search (consolidation_judged, rules)
