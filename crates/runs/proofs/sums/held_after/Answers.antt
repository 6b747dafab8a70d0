use mathlib.Core.Path.{sym, ap, ◌∙◌}
use mathlib.Core.List.{[]}
use native.Mathlib.Omega.{arith}
use Rattle.records.specs.Books.{tables}
use Rattle.acceptance.specs.Held.{held_form}
use Rattle.calls_reader.specs.Plain.{kind_code}
use Rattle.file_calls.specs.Laws.{of_code}
use Rattle.runs.specs.Sums.{refused_after, as_after, none_queued, some_queued, steady_after}
use Rattle.runs.proofs.sums.held_after.Goals as goal

pub returns-then-number-ne-DONE : goal.returns-then-number-ne-DONE
returns-then-number-ne-DONE c = refused_after c.requires.followed c.if-number-ne-DONE.true

pub returns-in-Reward : goal.returns-in-Reward
returns-in-Reward c =
    let code = sym c.requires.kind_read ∙ ap kind_code c.in-Reward.is in
    as_after c.requires.followed _ (c.amount-reward.ensures.0 code) c.if-number-ne-DONE.false

pub overflow_add-result : goal.overflow_add-result
overflow_add-result c =
    let code = sym c.requires.kind_read ∙ ap kind_code c.in-Reward.is in
    let sum = as_after c.requires.followed _ (c.amount-reward.ensures.0 code) c.if-number-ne-DONE.false in
    omega (arith, sum, c.requires.followed.small)

pub returns-in-Penalty : goal.returns-in-Penalty
returns-in-Penalty c =
    let code = sym c.requires.kind_read ∙ ap kind_code c.in-Penalty.is in
    as_after c.requires.followed _ (of_code _ 2 code) c.if-number-ne-DONE.false

-- a receipt
pub returns-then-after-before : goal.returns-then-after-before
returns-then-after-before c =
    none_queued c.requires.followed c.receipt-receipt.ensures c.if-number-ne-DONE.false c.if-after-before.true

pub overflow_add-result-in-DepositReceipt : goal.overflow_add-result-in-DepositReceipt
overflow_add-result-in-DepositReceipt c =
    let sum = some_queued c.requires.followed c.receipt-receipt.ensures c.if-number-ne-DONE.false
    c.if-after-before.false in
    omega (arith, sum, c.requires.followed.small)

pub returns-else-after-before : goal.returns-else-after-before
returns-else-after-before c =
    some_queued c.requires.followed c.receipt-receipt.ensures c.if-number-ne-DONE.false c.if-after-before.false

-- withdrawals, which are added up again
pub returns-in-Withdrawals : goal.returns-in-Withdrawals
returns-in-Withdrawals c =
    c.held.ensures [] [] []
    ∙ held_form c.args.after (tables [] c.args.validators.now c.args.deposits.now [] [])

pub returns-in_default : goal.returns-in_default
returns-in_default c =
    let other = c.in_default in
    steady_after _ c.requires.kind_read other.not-Reward other.not-Penalty other.not-DepositReceipt
    other.not-Withdrawals c.requires.followed c.if-number-ne-DONE.false
