use borrow.Author.Rules.{rules}
use Rattle.calls_writer.specs.Begun.{begun_short, begun_done}
use Rattle.calls_writer.proofs.new_calls.Goals as goal

pub returns-then-out-lt12 : goal.returns-then-out-lt12
returns-then-out-lt12 c = search (begun_short, rules)

pub returns : goal.returns
returns c =
    begun_done _ _ _ _ c.if-out-lt12.false c.put_word.ensures c.put_count.ensures
    c.put_end.ensures
