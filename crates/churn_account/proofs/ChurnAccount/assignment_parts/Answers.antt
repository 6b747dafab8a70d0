use Rattle.churn_account.specs.Parts.{assigned}
use Rattle.churn_account.proofs.ChurnAccount.assignment_parts.Goals as goal

pub returns : goal.returns
returns c =
    let additional = c.additional_epochs-additional.ensures in
    assigned _ _ _ _ c.args.amount.0 _ _ _ _
    c.start_account-start.ensures additional.epochs_value additional.left_value
