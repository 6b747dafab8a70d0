-- `calls_reader::EncodedCall::next` meets its contract.
use Rattle.std.proofs.Common.{rules}
use Rattle.calls_reader.specs.Laws.{next_found}
use Rattle.calls_reader.proofs.EncodedCall.next.Goals as goal

pub returns : goal.returns
returns c = search (next_found, rules)
