-- `calls_reader::withdrawal_ok` meets its contract.
use Rattle.std.proofs.Common.{rules}
use Rattle.calls_reader.specs.Laws.{withdrawal_judged}
use Rattle.calls_reader.proofs.withdrawal_ok.Goals as goal

pub returns : goal.returns
returns c = search (withdrawal_judged, rules)
