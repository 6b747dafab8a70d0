use native.Mathlib.Omega.{arith}
use Rattle.queue_room.proofs.Filling.{filling_more}
use Rattle.queue_room.proofs.set_switchable_balances.Goals as goal

pub loop-i-preserved : goal.loop-i-preserved
loop-i-preserved c =
    filling_more c.loop-i.invariant (omega arith) c.switchable_amount.ensures
    c.prefix_at-prefix.ensures c.balance_at-balance.ensures
