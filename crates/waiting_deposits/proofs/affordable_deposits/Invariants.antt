use Prim.Native.Nat.{◌-◌}
use Rattle.records.specs.Layout.{deposit_at}
use Rattle.waiting_deposits.specs.Blocks.{Walking}
use Rattle.waiting_deposits.proofs.affordable_deposits.Given as goal

abbrev pub invariant-loop-next : goal.invariant-loop-next
invariant-loop-next l = Walking l.initial.left.0 l.m (deposit_at l.deposits) l.next l.left.0

abbrev pub decreases-loop-next : goal.decreases-loop-next
decreases-loop-next l = l.m - l.next
