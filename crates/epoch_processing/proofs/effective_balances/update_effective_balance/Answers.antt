use mathlib.Core.Path.{◌≡◌, sym, ◌∙◌}
use Rattle.rules.specs.EpochProcessing.{needs_update}
use Rattle.primitives.specs.Settings.{settings_of}
use Rattle.records.specs.Layout.{validator_at}
use Rattle.epoch_processing.proofs.UpdateStep.{needs_read, not_updated, updated_at}
use Rattle.epoch_processing.proofs.effective_balances.update_effective_balance.Goals as goal
use Rattle.epoch_processing.proofs.effective_balances.update_effective_balance.Goals.{After-needs_update}

answered : (c : After-needs_update)
    → c.needs_update.result
    ≡ needs_update (settings_of c.args.settings)
    (validator_at c.args.identities.now c.args.validators.now c.args.i.0)
answered c =
    let a = c.args in
    let p = c.requires.thresholds in
    c.needs_update.ensures
    ∙ needs_read (settings_of a.settings) (validator_at a.identities.now a.validators.now a.i.0) _ _ _ _
    c.effective_balance_at-effective_balance.ensures c.balance_at-balance.ensures p.0 p.1

pub returns-then-not-needs_update : goal.returns-then-not-needs_update
returns-then-not-needs_update c =
    let a = c.args in
    let tested = answered (goal.at.returns-then-not-needs_update c).After-needs_update in
    not_updated (settings_of a.settings) a.i.0 a.identities.now a.validators.now
    (sym tested ∙ c.if-not-needs_update.true)

pub returns : goal.returns
returns c =
    let a = c.args in
    let tested = answered (goal.at.returns c).After-needs_update in
    let most = c.max_effective_balance_at-most.ensures a.validators.now in
    let balance = c.balance_at-balance.ensures in
    updated_at (settings_of a.settings) a.i.0 a.identities.now a.validators.now
    (sym tested ∙ c.if-not-needs_update.false)
    c.min.result
    (rw (← most, ← balance) c.min.ensures) _
    c.set_effective_balance.ensures
