-- `calls_reader::EncodedCall::withdrawals` meets its contract.
use Rattle.std.proofs.Common.{◌<◌, rules}
use Rattle.calls_reader.specs.Fields.{count_most, withdrawal_good, listed_none, listed_more}
use Rattle.calls_reader.specs.Fields.{list_blank, withdrawals_read}
use Rattle.calls_reader.proofs.EncodedCall.withdrawals.Goals as goal

pub loop-i-init : goal.loop-i-init
loop-i-init c = (search (count_most, rules), search (listed_none, rules))

pub withdrawal_at-requires : goal.withdrawal_at-requires
withdrawal_at-requires c = search (withdrawal_good, rules)

pub loop-i-preserved : goal.loop-i-preserved
loop-i-preserved c =
    let loop = c.loop-i in
    let l : loop.i < 16 = search rules in
    (search rules, search (listed_more, rules))

pub returns : goal.returns
returns c = (search (withdrawals_read, rules), search (list_blank, rules))
