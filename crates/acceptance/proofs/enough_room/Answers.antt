-- Each buffer's room is that of its table; the registry's is the smaller of two.
use Rattle.primitives.specs.Settings.{settings_of}
use Rattle.records.specs.Lent.{lent_tables}
use Rattle.acceptance.specs.Handed.{room_form}
use Rattle.acceptance.proofs.enough_room.Goals as goal

pub returns : goal.returns
returns c =
    simp (
      c.identities_fit.ensures,
      c.validators_fit.ensures,
      c.entries_fit-deposits.ensures,
      c.entries_fit-partials.ensures,
      c.entries_fit-consolidations.ensures,
    )
    (room_form (settings_of c.args.settings) (lent_tables c.args.books.now))
