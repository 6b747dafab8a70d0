-- `calls_reader::EncodedCall::receipt` meets its contract.
use Rattle.std.proofs.Common.{rules}
use Rattle.calls_reader.specs.Fields.{receipt_key_ok, receipt_credentials_ok, receipt_amount_ok}
use Rattle.calls_reader.specs.Fields.{receipt_index_ok, receipt_read}
use Rattle.calls_reader.proofs.EncodedCall.receipt.Goals as goal

pub field_at-requires : goal.field_at-requires
field_at-requires c = search (receipt_key_ok, rules)

pub field_at-requires-2 : goal.field_at-requires-2
field_at-requires-2 c = search (receipt_credentials_ok, rules)

pub number_at-requires : goal.number_at-requires
number_at-requires c = search (receipt_amount_ok, receipt_index_ok, rules)

pub number_at-requires-2 : goal.number_at-requires-2
number_at-requires-2 c = search (receipt_amount_ok, receipt_index_ok, rules)

pub returns : goal.returns
returns c = search (receipt_read, rules)
