use mathlib.Core.Path.{ap, ◌∙◌}
use Prim.Native.Nat.{ℕ, ◌-◌, ◌/◌, ◌%◌, max}
use native.Mathlib.Omega.{arith}
use Rattle.rules.specs.Helpers.{get_balance_churn_limit}
use Rattle.rule_laws.specs.Accepted.{settings_sound}
use Rattle.helpers.proofs.churn.get_balance_churn_limit.Goals as goal

pub nonzero_div-churn_limit : goal.nonzero_div-churn_limit
nonzero_div-churn_limit c = omega (arith, (settings_sound _ c.args.sound.sound).quotient_some)

pub nonzero_rem-result : goal.nonzero_rem-result
nonzero_rem-result c = omega (arith, (settings_sound _ c.args.sound.sound).increment_some)

pub returns : goal.returns
unfolding get_balance_churn_limit
returns c =
    λ ids ds ps cs.
    let S = c.args.sound.settings in
    let total = c.get_total_active_balance-total.ensures ids ds ps cs in
    let limit = ap (λ (n : ℕ). max S.min_per_epoch_churn_limit_electra.0 (n / S.churn_limit_quotient)) total in
    ap (λ (n : ℕ). n - n % S.effective_balance_increment.0) (c.max-churn.ensures ∙ limit)
