use mathlib.Core.Path.{ap, ◌∙◌}
use Prim.Native.Nat.{min}
use Rattle.rules.specs.Helpers.{get_activation_exit_churn_limit}
use Rattle.helpers.proofs.churn.get_activation_exit_churn_limit.Goals as goal

pub returns : goal.returns
unfolding get_activation_exit_churn_limit
returns c =
    λ ids ds ps cs.
    let S = c.args.sound.settings in
    let churn = c.get_balance_churn_limit-churn.ensures ids ds ps cs in
    c.min.ensures ∙ ap (min S.max_per_epoch_activation_exit_churn_limit.0) churn
