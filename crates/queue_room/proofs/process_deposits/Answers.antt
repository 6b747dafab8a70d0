use mathlib.Core.Path.{◌≡◌}
use native.Mathlib.Omega.{arith}
use Rattle.tables.specs.Rows.{length_rows, drop_rows_end}
use Rattle.records.specs.Layout.{deposit_at}
use Rattle.records.specs.Plain.{plain_deposit}
use Rattle.queue_room.proofs.Crediting.{crediting_fits, crediting_stop, crediting_more, crediting_end}
use Rattle.queue_room.proofs.Crediting.{owner, deposit_next}
use Rattle.queue_room.proofs.process_deposits.Goals as goal

pub returns-then-available-processed_amount : goal.returns-then-available-processed_amount
returns-then-available-processed_amount c =
    let s = c.args.books.now.scalars in
    let ds = c.args.books.now.deposits.now in
    let l = c.loop-k in
    let e = deposit_next s.deposits ds l.k c.loop-k-test.true c.entry_at-d.ensures in (
      l.invariant.size,
      crediting_stop l.invariant (plain_deposit c.entry_at-d.result) e
          (omega (arith, c.loop-k-test.true, length_rows s.deposits (deposit_at ds)))
          c.if-available-processed_amount.true,
    )

pub credit_deposit-requires-clause-amount_bound : goal.credit_deposit-requires-clause-amount_bound
credit_deposit-requires-clause-amount_bound c =
    let s = c.args.books.now.scalars in
    let ds = c.args.books.now.deposits.now in
    let l = c.loop-k in
    let read = c.entry_at-d.ensures in
    let e = deposit_next s.deposits ds l.k c.loop-k-test.true read in
    let inside = owner s.validators s.deposits ds l.k c.loop-k-test.true c.requires.ready.deposits_inside read in
    omega (arith, crediting_fits l.invariant (plain_deposit c.entry_at-d.result) e inside)

pub loop-k-preserved : goal.loop-k-preserved
loop-k-preserved c =
    let s = c.args.books.now.scalars in
    let ds = c.args.books.now.deposits.now in
    let l = c.loop-k in
    let read = c.entry_at-d.ensures in
    let e = deposit_next s.deposits ds l.k c.loop-k-test.true read in
    let inside = owner s.validators s.deposits ds l.k c.loop-k-test.true c.requires.ready.deposits_inside read in
    rw c.credit_deposit.ensures
    (crediting_more l.invariant (plain_deposit c.entry_at-d.result) e inside
    c.requires.ready.step.most_validators c.if-available-processed_amount.false)

-- past the last deposit k is their count
pub returns : goal.returns
returns c =
    let s = c.args.books.now.scalars in
    let ds = c.args.books.now.deposits.now in
    let l = c.loop-k in
    let size = length_rows s.deposits (deposit_at ds) in
    let past : l.k ≡ s.deposits = omega arith in (
      l.invariant.size,
      rw past at
          (crediting_end l.invariant (omega (arith, size)) (drop_rows_end _ _ _ c.loop-k-test.false)),
    )
