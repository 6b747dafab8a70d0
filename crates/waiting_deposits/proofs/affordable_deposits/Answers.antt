use mathlib.Core.Path.{◌≡◌}
use mathlib.Core.List.{List}
use Prim.Native.Nat.{ℕ, ◌+◌, ◌≤◌}
use native.Mathlib.Omega.{arith}
use lib.ListN.{take}
use Rattle.tables.specs.Rows.{rows}
use Rattle.primitives.specs.declared.Gwei.{Gwei}
use Rattle.records.specs.Layout.{deposit_at}
use Rattle.waiting_deposits.specs.declared.AffordableDeposits.{AffordableDeposits}
use Rattle.waiting_deposits.specs.declared.DepositBlock.{DepositBlock}
use Rattle.waiting_deposits.specs.Affords.{affords}
use Rattle.waiting_deposits.specs.Blocks.{Block, Affordable, lent_block, walking_end}
use Rattle.waiting_deposits.specs.Blocks.{walking_within, walking_stop, walking_more}
use Rattle.waiting_deposits.proofs.affordable_deposits.Goals as goal

-- the next block is within the table, and what is known of it
next_block : (ds : List ℕ) (m next : ℕ) (left : Gwei) (b : DepositBlock) (r : AffordableDeposits) → next ≤ m
    → Block ds next m b → r ≡ affords (take b.count b.deposits) left
    → (next + b.count ≤ m) × Affordable left.0 (rows b.count (λ k. deposit_at ds (next + k))) r.count r.left.0
next_block ds m next left b r reached is lent =
    (omega (arith, is.count), lent_block (take b.count b.deposits) left _ r is.records lent)

pub overflow_add-next : goal.overflow_add-next
overflow_add-next c =
    let l = c.loop-next in
    let n =
    next_block _ c.args.m l.next l.left _ _ l.invariant.reached c.block_from-block.ensures c.affordable_of-lent.ensures
    in
    omega (arith, walking_within l.invariant _ n.0 _ _ n.1)

pub returns-then-lent-block : goal.returns-then-lent-block
returns-then-lent-block c =
    let l = c.loop-next in
    let n =
    next_block _ c.args.m l.next l.left _ _ l.invariant.reached c.block_from-block.ensures c.affordable_of-lent.ensures
    in
    walking_stop l.invariant _ n.0 _ _ n.1 c.if-lent-block.true

pub loop-next-preserved : goal.loop-next-preserved
loop-next-preserved c =
    let l = c.loop-next in
    let n =
    next_block _ c.args.m l.next l.left _ _ l.invariant.reached c.block_from-block.ensures c.affordable_of-lent.ensures
    in
    walking_more l.invariant _ n.0 _ _ n.1 c.if-lent-block.false

pub returns-after-loop-next : goal.returns-after-loop-next
returns-after-loop-next c = walking_end c.loop-next.invariant c.loop-next-test.false
