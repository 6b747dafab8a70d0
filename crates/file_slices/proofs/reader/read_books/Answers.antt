use Rattle.std.proofs.Common.{ap, not}
use mathlib.Core.List.{[], ◌∷◌}
use lib.Dec.{leb}
use lib.ListN.{length}
use borrow.Author.Tests.{leb-true}
use Rattle.records.specs.Books.{tables}
use Rattle.slices.specs.Exported.{fit_room, fit_test}
use Rattle.file_slices.specs.Read.{read_unfit, read_refused, read_done}
use Rattle.file_slices.proofs.reader.read_books.Goals as goal

pub returns-then-not-read_fits : goal.returns-then-not-read_fits
returns-then-not-read_fits c =
    let lent = tables c.args.identities.now c.args.validators.now c.args.deposits.now c.args.partials.now
    c.args.consolidations.now in
    read_unfit c.args.file.now
    lent
    c.args.settings.now c.args.scalars.now c.read_fits.ensures (ap not c.if-not-read_fits.true)
    c.unfit_answer.ensures

pub returns-in-Err : goal.returns-in-Err
returns-in-Err c =
    let lent = tables c.args.identities.now c.args.validators.now c.args.deposits.now c.args.partials.now
    c.args.consolidations.now in
    rw c.number.ensures
    (read_refused c.args.file.now
    lent
    c.args.settings.now c.args.scalars.now c.read_fits.ensures (ap not c.if-not-read_fits.false)
    c.in-Err.ensures)

pub store_settings-requires : goal.store_settings-requires
store_settings-requires c =
    let others = leb 19 (length c.args.settings.now) ∷ [] in
    leb-true 19 (length c.args.settings.now)
    (fit_test c.args.scalars.now others c.read_fits.ensures (ap not c.if-not-read_fits.false) 0)

pub store_scalars-requires : goal.store_scalars-requires
store_scalars-requires c =
    let others = leb 19 (length c.args.settings.now) ∷ [] in
    fit_room c.args.scalars.now
    others
    c.read_fits.ensures (ap not c.if-not-read_fits.false)

pub returns-in-Ok : goal.returns-in-Ok
returns-in-Ok c =
    let lent = tables c.args.identities.now c.args.validators.now c.args.deposits.now c.args.partials.now
    c.args.consolidations.now in
    read_done c.args.file.now
    lent
    c.args.settings.now c.args.scalars.now c.read_fits.ensures (ap not c.if-not-read_fits.false)
    c.in-Ok.ensures c.store_settings.ensures
    c.store_scalars.ensures
