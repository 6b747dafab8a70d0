use Rattle.std.proofs.Common.{Err, ap, refl, rules, ◌∙◌, ◌≡◌}
use Rattle.primitives.specs.Answers.{refusal_not_0}
use mathlib.Core.Bool.{true}
use Prim.Native.Nat.{ℕ, ◌-◌}
use native.Mathlib.Omega.{arith}
use lib.Dec.{leb}
use Rattle.rules.specs.Types.{BOUND}
use Rattle.rule_laws.specs.Accepted.{settings_sound}
use Rattle.result_sizes.specs.Size.{size_number}
use Rattle.primitives.specs.Settings.{settings_of}
use Rattle.records.specs.Books.{tables}
use Rattle.helpers.specs.Assigned.{plain_assignment}
use Rattle.call_answers.specs.Answers.{judged_done, judged_refused}
use Rattle.request_operations.specs.Requests.{partial_stepped, request_number}
use Rattle.request_operations.proofs.queue_partial_withdrawal.Goals as goal

pub withdrawable_epoch-withdrawable-requires : goal.withdrawable_epoch-withdrawable-requires
withdrawable_epoch-withdrawable-requires c =
    let far = c.compute_exit_epoch_and_update_churn-a.ensures.far_off in
    omega (arith, far, (settings_sound _ c.args.sound.sound).delay)

pub returns-in_err-size_number : goal.returns-in_err-size_number
returns-in_err-size_number c =
    let e : c.from_residual.result ≡ Err c.in_err-size_number.field-0.0 = search rules in
    rw e (
    λ ids ds cs k.
    let a = c.args in
    let S = settings_of a.sound.settings in
    let held = tables ids a.validators.now ds a.partials.now cs in
    let x = plain_assignment c.compute_exit_epoch_and_update_churn-a.result in
    let sum = c.partial_amounts-sum in
    let given = c.compute_exit_epoch_and_update_churn-a.ensures.assigned ids ds a.partials.now cs in
    let judged =
    c.in_err-size_number.ensures
    ∙ ap (λ (n : ℕ). size_number true (leb sum.result.0 (BOUND - a.amount.0)) (leb n BOUND))
    c.withdrawable_epoch-withdrawable.ensures
    ∙ request_number S (settings_sound _ c.args.sound.sound) a.scalars held k a.i.0 a.amount.0
    sum.result.0 x c.requires.amount_and_room.0 (sum.ensures ids a.validators.now ds cs) given in
    judged_refused judged (refusal_not_0 _))

pub returns : goal.returns
returns c =
    λ ids ds cs k.
    let a = c.args in
    let S = settings_of a.sound.settings in
    let held = tables ids a.validators.now ds a.partials.now cs in
    let x = plain_assignment c.compute_exit_epoch_and_update_churn-a.result in
    let sum = c.partial_amounts-sum in
    let given = c.compute_exit_epoch_and_update_churn-a.ensures.assigned ids ds a.partials.now cs in
    let judged =
    c.in_ok-size_number.ensures
    ∙ ap (λ (n : ℕ). size_number true (leb sum.result.0 (BOUND - a.amount.0)) (leb n BOUND))
    c.withdrawable_epoch-withdrawable.ensures
    ∙ request_number S (settings_sound _ c.args.sound.sound) a.scalars held k a.i.0 a.amount.0
    sum.result.0 x c.requires.amount_and_room.0 (sum.ensures ids a.validators.now ds cs) given in
    judged_done (judged)
    (partial_stepped S a.scalars a.i.0 a.amount.0 x a.partials.now _ ids a.validators.now ds cs
    (rw c.withdrawable_epoch-withdrawable.ensures at c.push.ensures)
    refl
    given)
