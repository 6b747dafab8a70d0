-- A churn account read as the rules' assignment: what is left, and the epoch assigned last.
use Rattle.std.specs.Prelude.{ℕ}
use Rattle.rules.specs.Helpers.{Assignment, assign_epoch}
use Rattle.churn_account.specs.declared.ChurnAccount.{ChurnAccount}

abbrev pub plain_account : ChurnAccount → Assignment
plain_account a = record { left = a.balance_to_consume.0; epoch = a.earliest_epoch.0 }

-- an amount assigned to an account
abbrev pub assigned_to : ChurnAccount → (activation_exit_epoch churn amount : ℕ) → Assignment
assigned_to a activation_exit_epoch churn amount =
    assign_epoch a.balance_to_consume.0 a.earliest_epoch.0 activation_exit_epoch churn amount
