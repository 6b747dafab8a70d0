use Rattle.primitives.specs.Answers.{refusal_not_0}
use Rattle.std.proofs.Common.{not}
use mathlib.Core.Path.{refl, ap, sym, ◌∙◌}
use mathlib.Core.List.{[]}
use Rattle.records.specs.Books.{tables}
use Rattle.slices.specs.Exported.{fit_room, asked_unfit, asked_fit, unfit_refused, given_refused}
use Rattle.solarbasil.specs.Total.{total_done}
use Rattle.solarbasil.proofs.total.solarbasil_total.Goals as goal

pub returns-then-not-scalars_fit : goal.returns-then-not-scalars_fit
returns-then-not-scalars_fit c =
    let lent = tables c.args.identities.now c.args.validators.now c.args.deposits.now c.args.partials.now
    c.args.consolidations.now in record {
      answer = asked_unfit c.args.settings.now []
          lent
          c.args.scalars.now c.settings_from-chain.ensures c.scalars_fit.ensures
          (ap not c.if-not-scalars_fit.true) c.unfit_answer.ensures;
      total_given = given_refused _
          (λ e. unfit_refused _ (sym c.unfit_answer.ensures ∙ e));
    }

pub scalars_from-before-requires : goal.scalars_from-before-requires
scalars_from-before-requires c =
    fit_room c.args.scalars.now [] c.scalars_fit.ensures (ap not c.if-not-scalars_fit.false)

pub returns-in-Err : goal.returns-in-Err
returns-in-Err c =
    let lent = tables c.args.identities.now c.args.validators.now c.args.deposits.now c.args.partials.now
    c.args.consolidations.now in
    rw c.number.ensures
    (record {
      answer = asked_fit c.args.settings.now [] lent c.args.scalars.now
          c.settings_from-chain.ensures c.scalars_fit.ensures (ap not c.if-not-scalars_fit.false)
          c.scalars_from-before.ensures c.in-Err.ensures.number;
      total_given = given_refused _ (refusal_not_0 _);
    })

pub returns-in-Ok : goal.returns-in-Ok
returns-in-Ok c =
    let lent = tables c.args.identities.now c.args.validators.now c.args.deposits.now c.args.partials.now
    c.args.consolidations.now in
    let handed = c.in-Ok.ensures.number in
    record {
      answer = asked_fit c.args.settings.now [] lent c.args.scalars.now
          c.settings_from-chain.ensures c.scalars_fit.ensures (ap not c.if-not-scalars_fit.false)
          c.scalars_from-before.ensures handed;
      total_given = total_done _ lent c.args.scalars.now _ c.args.total.now
          c.scalars_from-before.ensures handed refl c.in-Ok.ensures.sum;
    }
