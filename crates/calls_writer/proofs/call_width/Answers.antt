use borrow.Author.Rules.{rules}
use Rattle.calls_writer.specs.Listed.{withdrawals_many}
use Rattle.calls_writer.proofs.call_width.Goals as goal

pub returns-in-Withdrawals : goal.returns-in-Withdrawals
returns-in-Withdrawals c = search (withdrawals_many, rules)
