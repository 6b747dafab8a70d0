use mathlib.Core.List.{[]}
use Rattle.primitives.specs.Settings.{settings_of}
use Rattle.pending_consolidations.proofs.ConsolidationStep.{target_small, moved}
use Rattle.pending_consolidations.proofs.move_active_balance.Goals as goal

pub increase_balance-requires-clause-delta_bound : goal.increase_balance-requires-clause-delta_bound
increase_balance-requires-clause-delta_bound c =
    let a = c.args in
    let p = c.requires in
    let active = c.get_active_balance-active_balance in
    target_small (settings_of a.settings) a.scalars a.identities.now a.validators.now a.source.0
    a.target.0 active.result.0 p.known active.ensures _ c.decrease_balance.ensures (p.balances_small [] [] [])

pub returns : goal.returns
returns c =
    let a = c.args in
    let active = c.get_active_balance-active_balance in
    moved (settings_of a.settings) a.scalars a.identities.now a.validators.now a.source.0
    a.target.0 active.result.0 c.requires.known
    active.ensures _ c.decrease_balance.ensures
    _ c.increase_balance.ensures
