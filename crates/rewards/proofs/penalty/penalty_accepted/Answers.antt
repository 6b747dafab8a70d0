use Rattle.rewards.specs.Rewards.{in_table, penalty_unknown, penalty_done}
use Rattle.rewards.proofs.penalty.penalty_accepted.Goals as goal

pub returns-then-scalars-i : goal.returns-then-scalars-i
returns-then-scalars-i c = penalty_unknown _ _ _ _ _ c.requires c.if-scalars-i.true

pub decrease_balance-requires : goal.decrease_balance-requires
decrease_balance-requires c = in_table _ _ _ _ c.args.amount.0 c.requires c.if-scalars-i.false

pub returns : goal.returns
returns c =
    penalty_done _ _ _ _ _ _ _ _ _ _ c.requires c.if-scalars-i.false c.decrease_balance.ensures
