-- `calls_reader::EncodedCall::amount` meets its contract.
use Rattle.std.proofs.Common.{rules}
use Rattle.calls_reader.specs.Fields.{amount_validator_ok, amount_amount_ok, reward_read, penalty_read}
use Rattle.calls_reader.proofs.EncodedCall.amount.Goals as goal

pub number_at-requires : goal.number_at-requires
number_at-requires c = search (amount_validator_ok, rules)

pub number_at-requires-2 : goal.number_at-requires-2
number_at-requires-2 c = search (amount_amount_ok, rules)

pub returns : goal.returns
returns c = (λ h. search (reward_read, rules), λ h. search (penalty_read, rules))
