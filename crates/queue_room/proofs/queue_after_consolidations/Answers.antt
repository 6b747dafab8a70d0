use Rattle.primitives.specs.Settings.{settings_of}
use Rattle.records.specs.Books.{tables}
use Rattle.queue_room.specs.Represented.{represented_books}
use Rattle.queue_room.specs.Room.{queue_of_step}
use Rattle.queue_room.proofs.queue_after_consolidations.Goals as goal

pub returns : goal.returns
returns c =
    λ ds ps.
    let b = c.args.books.now in
    let t = tables b.identities.now b.validators.now ds ps b.consolidations.now in
    let k = represented_books b.scalars t c.set_switchable_balances.ensures.1 in
    queue_of_step (settings_of c.args.settings) b.scalars t (c.count_excess_entries-entries.ensures.1 _ k)
