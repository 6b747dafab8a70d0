-- `calls_reader::fields_width` meets its contract.
use Rattle.std.proofs.Common.{rules}
use Rattle.calls_reader.specs.Laws.{width_1, width_2, width_3, width_4, width_5, width_6}
use Rattle.calls_reader.specs.Laws.{withdrawals_width, width_none}
use Rattle.calls_reader.proofs.fields_width.Goals as goal

pub returns-in-1 : goal.returns-in-1
returns-in-1 c = search (width_1, rules)

pub returns-in-2 : goal.returns-in-2
returns-in-2 c = search (width_2, rules)

pub returns-in-3 : goal.returns-in-3
returns-in-3 c = search (width_3, rules)

pub returns-in-4 : goal.returns-in-4
returns-in-4 c = search (width_4, rules)

pub returns-in-5 : goal.returns-in-5
returns-in-5 c = search (width_5, rules)

pub returns-in-6 : goal.returns-in-6
returns-in-6 c = search (width_6, rules)

pub returns-in-8 : goal.returns-in-8
returns-in-8 c = search (withdrawals_width, rules)

pub returns-in_default : goal.returns-in_default
returns-in_default c =
    let n = c.in_default.in_default-own.rest in
    width_none _ _ n.0.0.0.0.0.0.1 n.0.0.0.0.0.1 n.0.0.0.0.1 n.0.0.0.1 n.0.0.1
    n.0.1 n.1
