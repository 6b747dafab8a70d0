-- `calls_reader::EncodedCall::request` meets its contract.
use Rattle.std.proofs.Common.{rules}
use Rattle.calls_reader.specs.Fields.{request_address_ok, request_key_ok, request_amount_ok, request_read}
use Rattle.calls_reader.proofs.EncodedCall.request.Goals as goal

pub field_at-requires : goal.field_at-requires
field_at-requires c = search (request_address_ok, rules)

pub field_at-requires-2 : goal.field_at-requires-2
field_at-requires-2 c = search (request_key_ok, rules)

pub number_at-requires : goal.number_at-requires
number_at-requires c = search (request_amount_ok, rules)

pub returns : goal.returns
returns c = search (request_read, rules)
