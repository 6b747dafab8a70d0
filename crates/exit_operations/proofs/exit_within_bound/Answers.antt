use native.Mathlib.Omega.{arith}
use Rattle.rule_laws.specs.Accepted.{settings_sound}
use Rattle.primitives.specs.Settings.{settings_of}
use Rattle.records.specs.Books.{tables}
use Rattle.helpers.specs.Assigned.{plain_assignment}
use Rattle.helpers.specs.Exits.{exit_whole}
use Rattle.call_answers.specs.Answers.{judged_done, judged_refused}
use Rattle.exit_operations.specs.Exits.{exit_over, exit_within}
use Rattle.exit_operations.proofs.exit_within_bound.Goals as goal

pub withdrawable_epoch-withdrawable-requires : goal.withdrawable_epoch-withdrawable-requires
withdrawable_epoch-withdrawable-requires c =
    omega (arith, c.assign_exit-a.ensures.far_off, (settings_sound _ c.args.sound.sound).delay)

pub returns-then-withdrawable-gt-BOUND : goal.returns-then-withdrawable-gt-BOUND
returns-then-withdrawable-gt-BOUND c =
    λ ids ds ps cs k.
    let a = c.args in
    let t = tables ids a.validators.now ds ps cs in
    judged_refused
    (exit_over (settings_of a.sound.settings) (settings_sound _ c.args.sound.sound) a.scalars t k a.i.0
    c.requires.not_begun.0 c.requires.not_begun.1 (plain_assignment c.assign_exit-a.result)
    (c.assign_exit-a.ensures.assigned ids ds ps cs)
    (omega (arith, c.withdrawable_epoch-withdrawable.ensures, c.if-withdrawable-gt-BOUND.true)))
    (λ z. omega arith)

pub returns : goal.returns
returns c =
    λ ids ds ps cs k.
    let a = c.args in
    let t = tables ids a.validators.now ds ps cs in
    let given = c.assign_exit-a.ensures.assigned ids ds ps cs in
    judged_done
    (exit_within (settings_of a.sound.settings) (settings_sound _ c.args.sound.sound) a.scalars t k a.i.0
    c.requires.not_begun.0 c.requires.not_begun.1 (plain_assignment c.assign_exit-a.result) given
    (omega (arith, c.withdrawable_epoch-withdrawable.ensures, c.if-withdrawable-gt-BOUND.false)))
    (exit_whole (settings_of a.sound.settings) a.i.0 a.scalars t c.requires.not_begun.0 c.requires.not_begun.1
    given (c.begin_exit-begun.ensures ids ds ps cs))
