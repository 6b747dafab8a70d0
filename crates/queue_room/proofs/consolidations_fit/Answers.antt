use Rattle.primitives.specs.Settings.{settings_of}
use Rattle.records.specs.Books.{tables}
use Rattle.queue_room.specs.Room.{fits_uncounted}
use Rattle.queue_room.proofs.consolidations_fit.Goals as goal

pub returns-then-most-limit : goal.returns-then-most-limit
returns-then-most-limit c =
    λ ds ps.
    let b = c.args.books.now in
    fits_uncounted (settings_of c.args.settings) b.scalars
    (tables b.identities.now b.validators.now ds ps b.consolidations.now) _ c.if-most-limit.true
