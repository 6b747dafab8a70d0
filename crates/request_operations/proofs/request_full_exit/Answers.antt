use borrow.Author.Tests.{eq-eqb, ne_eqb}
use Rattle.primitives.specs.Settings.{settings_of}
use Rattle.records.specs.Books.{tables}
use Rattle.call_answers.specs.Answers.{judged_same, judged_as}
use Rattle.request_operations.specs.Requests.{request_full_exit, full_exit_none, full_exit_some}
use Rattle.request_operations.proofs.request_full_exit.Goals as goal

pub returns-then-pending-ne0 : goal.returns-then-pending-ne0
returns-then-pending-ne0 c =
    λ ids ds cs k.
    let a = c.args in
    let owed = c.get_pending_balance_to_withdraw-pending in
    judged_same k
    (full_exit_none (settings_of a.sound.settings) a.scalars (tables ids a.validators.now ds a.partials.now cs)
    a.i.0 (owed.ensures ids a.validators.now ds cs) (ne_eqb owed.result.0 0 c.if-pending-ne0.true))

pub returns : goal.returns
returns c =
    λ ids ds cs k.
    let a = c.args in
    let S = settings_of a.sound.settings in
    let owed = c.get_pending_balance_to_withdraw-pending in
    judged_as (request_full_exit S a.i.0)
    (full_exit_some S a.scalars (tables ids a.validators.now ds a.partials.now cs) a.i.0
    (owed.ensures ids a.validators.now ds cs) (eq-eqb owed.result.0 0 c.if-pending-ne0.false))
    (c.exit_within_bound.ensures ids ds a.partials.now cs k)
