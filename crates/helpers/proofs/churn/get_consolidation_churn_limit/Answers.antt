use mathlib.Core.Path.{ap, ap₂, ◌∙◌}
use Prim.Native.Nat.{◌-◌, min}
use Rattle.rules.specs.Helpers.{get_activation_exit_churn_limit, get_consolidation_churn_limit}
use Rattle.helpers.proofs.churn.get_consolidation_churn_limit.Goals as goal

pub returns : goal.returns
unfolding get_consolidation_churn_limit get_activation_exit_churn_limit
returns c =
    λ ids ds ps cs.
    let S = c.args.sound.settings in
    let churn = c.get_balance_churn_limit-churn.ensures ids ds ps cs in
    let activation_exit = ap (min S.max_per_epoch_activation_exit_churn_limit.0) churn in
    ap₂ ◌-◌ churn (c.min-activation_exit.ensures ∙ activation_exit)
