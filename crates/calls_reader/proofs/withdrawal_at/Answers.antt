-- `calls_reader::withdrawal_at` meets its contract.
use Rattle.std.proofs.Common.{rules}
use Rattle.calls_reader.specs.Fields.{withdrawal_address_ok, withdrawal_index_ok, withdrawal_validator_ok}
use Rattle.calls_reader.specs.Fields.{withdrawal_amount_ok, withdrawal_read}
use Rattle.calls_reader.proofs.withdrawal_at.Goals as goal

pub field_at-requires : goal.field_at-requires
field_at-requires c = search (withdrawal_address_ok, rules)

pub number_at-requires : goal.number_at-requires
number_at-requires c = search (withdrawal_index_ok, rules)

pub number_at-requires-2 : goal.number_at-requires-2
number_at-requires-2 c = search (withdrawal_validator_ok, rules)

pub number_at-requires-3 : goal.number_at-requires-3
number_at-requires-3 c = search (withdrawal_amount_ok, rules)

pub returns : goal.returns
returns c = search (withdrawal_read, rules)
