-- `calls_reader::fields_ok` meets its contract.
use Rattle.std.proofs.Common.{rules}
use Rattle.calls_reader.specs.Laws.{fields_1, fields_2, fields_3, fields_4, fields_5, fields_6}
use Rattle.calls_reader.specs.Laws.{fields_7, fields_8, fields_none}
use Rattle.calls_reader.proofs.fields_ok.Goals as goal

pub returns-in-1 : goal.returns-in-1
returns-in-1 c = search (fields_1, rules)

pub returns-in-2 : goal.returns-in-2
returns-in-2 c = search (fields_2, rules)

pub returns-in-3 : goal.returns-in-3
returns-in-3 c = search (fields_3, rules)

pub returns-in-4 : goal.returns-in-4
returns-in-4 c = search (fields_4, rules)

pub returns-in-5 : goal.returns-in-5
returns-in-5 c = search (fields_5, rules)

pub returns-in-6 : goal.returns-in-6
returns-in-6 c = search (fields_6, rules)

pub returns-in-7 : goal.returns-in-7
returns-in-7 c = search (fields_7, rules)

pub returns-in-8 : goal.returns-in-8
returns-in-8 c = search (fields_8, rules)

pub returns-in_default : goal.returns-in_default
returns-in_default c =
    let n = c.in_default.in_default-own.rest in
    fields_none _ _ n.0.0.0.0.0.0.0.1 n.0.0.0.0.0.0.1 n.0.0.0.0.0.1 n.0.0.0.0.1
    n.0.0.0.1 n.0.0.1 n.0.1 n.1
