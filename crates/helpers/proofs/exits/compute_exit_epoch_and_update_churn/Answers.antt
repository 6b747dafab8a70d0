use mathlib.Core.Path.{ap, ◌∙◌}
use mathlib.Core.List.{[]}
use Prim.Native.Nat.{ℕ}
use native.Mathlib.Omega.{arith}
use Rattle.rules.specs.Helpers.{assign_epoch, compute_activation_exit_epoch, compute_exit_epoch_and_update_churn}
use Rattle.rule_laws.specs.Accepted.{settings_sound}
use Rattle.rule_laws.specs.Churn.{activation_exit_churn_some}
use Rattle.primitives.specs.Settings.{settings_of}
use Rattle.records.specs.Books.{tables, books_of}
use Rattle.helpers.proofs.exits.compute_exit_epoch_and_update_churn.Goals as goal

pub assign_account-requires-clause-churn_and_amount : goal.assign_account-requires-clause-churn_and_amount
assign_account-requires-clause-churn_and_amount c =
    let a = c.args in
    let b = books_of a.scalars (tables [] a.validators.now [] [] []) in
    let some = activation_exit_churn_some (settings_of a.sound.settings) b (settings_sound _ c.args.sound.sound) in
    let churn = c.get_activation_exit_churn_limit-churn.ensures [] [] [] [] in
    (omega arith, c.requires.amount_bound)

pub returns-clause-assigned : goal.returns-clause-assigned
unfolding compute_exit_epoch_and_update_churn books_of
returns-clause-assigned c ids ds ps cs =
    let a = c.args in
    let t = tables ids a.validators.now ds ps cs in
    let left = a.scalars.exit_balance_to_consume.0 in
    let earliest = a.scalars.earliest_exit_epoch.0 in
    let activation_exit = compute_activation_exit_epoch (settings_of a.sound.settings) (books_of a.scalars t) in
    c.assign_account.ensures.assigned t
    ∙ ap (λ (n : ℕ). assign_epoch left earliest activation_exit n a.amount.0)
    (c.get_activation_exit_churn_limit-churn.ensures ids ds ps cs)
