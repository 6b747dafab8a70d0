use mathlib.Core.Path.{ap, ◌∙◌}
use mathlib.Core.List.{[]}
use Prim.Native.Nat.{ℕ, ◌+◌, ◌≤◌, ◌<◌, ◌^◌}
use native.Mathlib.Omega.{arith}
use Rattle.rules.specs.Types.{BOUND, FAR}
use Rattle.rules.specs.Helpers.{Assignment, assign_epoch}
use Rattle.rule_laws.specs.Accepted.{settings_sound}
use Rattle.records.specs.Books.{tables, books_of}
use Rattle.churn_account.specs.Account.{assigned_to}
use Rattle.helpers.specs.Exits.{assigned_near}
use Rattle.helpers.proofs.exits.assign_account.Goals as goal
use Rattle.helpers.proofs.exits.assign_account.Goals.{After-compute_activation_exit_epoch-activation_exit}

near : (c : After-compute_activation_exit_epoch-activation_exit)
    → (assigned_to c.args.account c.compute_activation_exit_epoch-activation_exit.result.0
    c.args.churn.0 c.args.amount.0).epoch + 2 ^ 16 < FAR
unfolding books_of
near c =
    let e = c.compute_activation_exit_epoch-activation_exit.ensures (tables [] [] [] [] []) in
    let h : c.compute_activation_exit_epoch-activation_exit.result.0 ≤ BOUND + 2 ^ 17 =
    omega (arith, (settings_sound _ c.args.sound.sound).lookahead) in
    assigned_near c.args.account.balance_to_consume.0 c.args.account.earliest_epoch.0
    c.compute_activation_exit_epoch-activation_exit.result.0
    c.args.churn.0 c.args.amount.0 c.requires.epochs_bound.1 h c.requires.churn_and_amount.1

pub account_after-account-requires : goal.account_after-account-requires
account_after-account-requires c =
    let near = near (goal.at.account_after-account-requires c).After-compute_activation_exit_epoch-activation_exit in
    (c.requires.churn_and_amount.0, omega (arith, near))

pub returns : goal.returns
returns c =
    let near = near (goal.at.returns c).After-compute_activation_exit_epoch-activation_exit in
    let assigned = c.from.ensures ∙ c.account_after-account.ensures in
    record {
      assigned = λ t.
          let a = c.args in
          let account = a.account in
          assigned
          ∙ ap (λ (e : ℕ). assign_epoch account.balance_to_consume.0 account.earliest_epoch.0 e a.churn.0 a.amount.0)
          (c.compute_activation_exit_epoch-activation_exit.ensures t);
      far_off = omega (arith, near, ap (λ (x : Assignment). x.epoch) assigned);
    }
