use borrow.Author.Rules.{rules}
use Rattle.calls_writer.specs.Fits.{reward_put, penalty_put, turn_put}
use Rattle.calls_writer.specs.Handed.{listed_in}
use Rattle.calls_writer.proofs.put_call.Goals as goal

pub returns-in-Reward : goal.returns-in-Reward
returns-in-Reward c = search (reward_put, rules)

pub returns-in-Penalty : goal.returns-in-Penalty
returns-in-Penalty c = search (penalty_put, rules)

pub returns-in-Turn : goal.returns-in-Turn
returns-in-Turn c = search (turn_put, rules)

pub put_withdrawals-requires-clause-listed : goal.put_withdrawals-requires-clause-listed
put_withdrawals-requires-clause-listed c = rw c.in-Withdrawals.is at (listed_in c.args.c _ c.well_formed.1.1.0)
