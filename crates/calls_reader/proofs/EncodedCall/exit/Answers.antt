-- `calls_reader::EncodedCall::exit` meets its contract.
use Rattle.std.proofs.Common.{rules}
use Rattle.calls_reader.specs.Fields.{exit_validator_ok, exit_epoch_ok, exit_read}
use Rattle.calls_reader.proofs.EncodedCall.exit.Goals as goal

pub number_at-requires : goal.number_at-requires
number_at-requires c = search (exit_validator_ok, rules)

pub number_at-requires-2 : goal.number_at-requires-2
number_at-requires-2 c = search (exit_epoch_ok, rules)

pub returns : goal.returns
returns c = search (exit_read, rules)
