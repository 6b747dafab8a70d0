-- `calls_reader::EncodedCall::call` meets its contract.
use Rattle.file_format.specs.Words.{words}
use Rattle.calls_reader.specs.Plain.{turn_read}
use Rattle.calls_reader.proofs.EncodedCall.call.Goals as goal

pub returns-in-Turn-clause-operation : goal.returns-in-Turn-clause-operation
returns-in-Turn-clause-operation c = turn_read (words c.args.self.rest.now) c.in-Turn.ensures
