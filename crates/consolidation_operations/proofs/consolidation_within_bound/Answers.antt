use mathlib.Core.Path.{refl}
use native.Mathlib.Omega.{arith}
use Rattle.rule_laws.specs.Accepted.{settings_sound}
use Rattle.primitives.specs.Settings.{settings_of}
use Rattle.records.specs.Books.{tables}
use Rattle.helpers.specs.Assigned.{plain_assignment}
use Rattle.call_answers.specs.Answers.{judged_done, judged_refused}
use Rattle.consolidation_operations.specs.Consolidations.{consolidation_assigned, consolidation_stepped}
use Rattle.consolidation_operations.specs.Consolidations.{consolidation_over, consolidation_within}
use Rattle.consolidation_operations.proofs.consolidation_within_bound.Goals as goal

pub withdrawable_epoch-withdrawable-requires : goal.withdrawable_epoch-withdrawable-requires
withdrawable_epoch-withdrawable-requires c =
    omega (
      arith,
      c.assign_consolidation_epoch-a.ensures.far_off,
      (settings_sound _ c.args.sound.sound).delay,
    )

pub returns-then-withdrawable-gt-BOUND : goal.returns-then-withdrawable-gt-BOUND
returns-then-withdrawable-gt-BOUND c =
    λ ids ds ps k.
    let a = c.args in
    let t = tables ids a.validators.now ds ps a.consolidations.now in
    let x = plain_assignment c.assign_consolidation_epoch-a.result in
    let assigned =
    consolidation_assigned (settings_of a.sound.settings) a.scalars t a.source.0 c.requires.known_source_and_room.0 x
    a.churn.0 c.effective_balance_at-amount.result.0 (c.requires.churn_is_some.1 ids ds ps a.consolidations.now)
    c.effective_balance_at-amount.ensures (c.assign_consolidation_epoch-a.ensures.assigned t) in
    judged_refused
    (consolidation_over (settings_of a.sound.settings) a.scalars t a.source.0
    c.requires.known_source_and_room.0 (settings_sound _ c.args.sound.sound) k a.target.0
    x assigned
    (omega (arith, c.withdrawable_epoch-withdrawable.ensures, c.if-withdrawable-gt-BOUND.true)))
    (λ z. omega arith)

pub returns : goal.returns
returns c =
    λ ids ds ps k.
    let a = c.args in
    let t = tables ids a.validators.now ds ps a.consolidations.now in
    let x = plain_assignment c.assign_consolidation_epoch-a.result in
    let assigned =
    consolidation_assigned (settings_of a.sound.settings) a.scalars t a.source.0 c.requires.known_source_and_room.0 x
    a.churn.0 c.effective_balance_at-amount.result.0 (c.requires.churn_is_some.1 ids ds ps a.consolidations.now)
    c.effective_balance_at-amount.ensures (c.assign_consolidation_epoch-a.ensures.assigned t) in
    let S = settings_of a.sound.settings in
    let last = c.withdrawable_epoch-withdrawable.ensures in
    judged_done
    (consolidation_within S a.scalars t a.source.0 c.requires.known_source_and_room.0
    (settings_sound _ c.args.sound.sound) k a.target.0 x assigned
    (omega (arith, last, c.if-withdrawable-gt-BOUND.false)))
    (consolidation_stepped S a.scalars a.source.0 a.target.0 x a.validators.now _
    a.consolidations.now _ ids ds ps c.requires.known_source_and_room.0 (rw last at c.set_exit.ensures)
    c.push.ensures
    refl
    assigned)
