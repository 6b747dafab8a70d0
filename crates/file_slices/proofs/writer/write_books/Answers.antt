use Rattle.std.proofs.Common.{ap, not, refl}
use Rattle.primitives.specs.Answers.{refusal_not_0}
use mathlib.Core.List.{[]}
use Rattle.slices.specs.Exported.{fit_room}
use Rattle.file_slices.specs.Written.{written_unfit, written_refused, written_done}
use Rattle.file_slices.proofs.writer.write_books.Goals as goal

pub returns-then-not-scalars_fit : goal.returns-then-not-scalars_fit
returns-then-not-scalars_fit c =
    written_unfit c.args.settings.now c.args.scalars.now c.settings_from-chain.ensures
    c.scalars_fit.ensures (ap not c.if-not-scalars_fit.true) c.unfit_answer.ensures

pub scalars_from-numbers-requires : goal.scalars_from-numbers-requires
scalars_from-numbers-requires c =
    fit_room c.args.scalars.now [] c.scalars_fit.ensures (ap not c.if-not-scalars_fit.false)

pub returns-in-Err : goal.returns-in-Err
returns-in-Err c =
    rw c.number.ensures
    (written_refused c.args.settings.now c.args.scalars.now
    c.settings_from-chain.ensures c.scalars_fit.ensures (ap not c.if-not-scalars_fit.false)
    c.scalars_from-numbers.ensures c.in-Err.ensures (refusal_not_0 _))

pub returns-in-Ok : goal.returns-in-Ok
returns-in-Ok c =
    written_done c.args.settings.now c.args.scalars.now c.settings_from-chain.ensures
    c.scalars_fit.ensures (ap not c.if-not-scalars_fit.false) c.scalars_from-numbers.ensures
    c.in-Ok.ensures refl
