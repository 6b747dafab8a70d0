use Prim.Native.Nat.{ℕ, ◌+◌}
use Rattle.records.specs.Layout.{deposit_at}
use Rattle.waiting_deposits.specs.Blocks.{Reading}
use Rattle.waiting_deposits.proofs.block_from.Given as goal

abbrev pub invariant-loop-k : goal.invariant-loop-k
invariant-loop-k l = Reading (λ (i : ℕ). deposit_at l.deposits (l.from + i)) l.list l.k
