use mathlib.Core.Path.{ap, sym, ◌∙◌}
use Rattle.rules.specs.Types.{Validator}
use Rattle.records.specs.Books.{tables}
use Rattle.records.specs.Reading.{validator_read}
use Rattle.helpers.specs.Exits.{exit_assignment}
use Rattle.helpers.proofs.exits.assign_exit.Goals as goal

pub returns-clause-assigned : goal.returns-clause-assigned
unfolding exit_assignment
returns-clause-assigned c ids ds ps cs =
    let a = c.args in
    let t = tables ids a.validators.now ds ps cs in
    let read = validator_read a.scalars t a.i.0 c.requires.i_lt_validators in
    let effective = ap (λ (v : Validator). v.effective_balance) (sym read) in
    let amount = c.effective_balance_at-amount.ensures ∙ effective in
    rw amount at (c.compute_exit_epoch_and_update_churn.ensures.assigned ids ds ps cs)
