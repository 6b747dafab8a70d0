use borrow.Author.Rules.{rules}
use Rattle.calls_writer.specs.Listed.{withdrawals_put}
use Rattle.calls_writer.proofs.put_withdrawals.Goals as goal

pub returns : goal.returns
returns c = search (withdrawals_put, rules)
