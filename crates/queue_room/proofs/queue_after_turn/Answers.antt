use native.Mathlib.Omega.{arith}
use Rattle.tables.specs.Rows.{length_rows}
use Rattle.primitives.specs.Settings.{settings_of}
use Rattle.records.specs.Layout.{deposit_at}
use Rattle.records.specs.Books.{tables}
use Rattle.queue_room.specs.Represented.{represented_deposits}
use Rattle.queue_room.specs.Room.{queue_of_turn}
use Rattle.queue_room.proofs.queue_after_turn.Goals as goal

pub overflow_sub-result : goal.overflow_sub-result
overflow_sub-result c =
    let b = c.args.books.now in
    omega (
      arith,
      c.process_deposits-credited.ensures.1.most,
      length_rows b.scalars.deposits (deposit_at b.deposits.now),
    )

pub returns : goal.returns
returns c =
    λ ps e.
    let b = c.args.books.now in
    let S = settings_of c.args.settings in
    let t = tables b.identities.now b.validators.now b.deposits.now ps b.consolidations.now in
    let done = c.process_deposits-credited.ensures.1 in
    let k = represented_deposits b.scalars t S c.args.available.0 e done.balances in
    queue_of_turn S b.scalars t c.process_deposits-credited.result e done.waiting
    (c.count_excess_entries-entries.ensures.1 _ k)
