use Rattle.std.proofs.Common.{ap, not, refl}
use mathlib.Core.List.{[]}
use Rattle.primitives.specs.Answers.{refusal_not_0}
use Rattle.slices.specs.Exported.{fit_room}
use Rattle.file_slices.specs.Carried.{carried_unfit, carried_refused, carried_done}
use Rattle.file_slices.proofs.runner.carry_out.Goals as goal

pub returns-then-not-scalars_fit : goal.returns-then-not-scalars_fit
returns-then-not-scalars_fit c =
    carried_unfit c.args.settings.now c.args.scalars.now c.settings_from-chain.ensures
    c.scalars_fit.ensures (ap not c.if-not-scalars_fit.true) c.unfit_answer.ensures

pub scalars_from-before-requires : goal.scalars_from-before-requires
scalars_from-before-requires c =
    fit_room c.args.scalars.now [] c.scalars_fit.ensures (ap not c.if-not-scalars_fit.false)

pub returns-in-Err : goal.returns-in-Err
returns-in-Err c =
    rw c.number.ensures
    (carried_refused c.args.settings.now c.args.scalars.now
    c.settings_from-chain.ensures c.scalars_fit.ensures (ap not c.if-not-scalars_fit.false)
    c.scalars_from-before.ensures c.in-Err.ensures (refusal_not_0 _))

pub store_scalars-requires : goal.store_scalars-requires
store_scalars-requires c = fit_room c.args.scalars.now [] c.scalars_fit.ensures (ap not c.if-not-scalars_fit.false)

pub returns-in-Ok : goal.returns-in-Ok
returns-in-Ok c =
    carried_done c.args.settings.now c.args.scalars.now c.settings_from-chain.ensures
    c.scalars_fit.ensures (ap not c.if-not-scalars_fit.false) c.scalars_from-before.ensures
    c.in-Ok.ensures refl c.store_scalars.ensures
