-- `calls_reader::EncodedCall::kind` meets its contract.
use borrow.Author.Rules.{rules}
use Rattle.calls_reader.specs.Plain.{turn_code}
use Rattle.calls_reader.proofs.EncodedCall.kind.Goals as goal

pub returns-in_default : goal.returns-in_default
returns-in_default c = search (turn_code, rules)
