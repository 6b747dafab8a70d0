use mathlib.Core.Path.{refl, sym, ap, ◌∙◌}
use mathlib.Core.Bool.{not}
use Prim.Native.Nat.{◌≤◌}
use native.Mathlib.Omega.{arith}
use borrow.Author.Tests.{lt-ltb, le-ltb, leb-true}
use lib.Dec.{leb, ltb}
use Rattle.lists.specs.Laws.{both}
use Rattle.rule_laws.specs.Accepted.{settings_sound}
use Rattle.primitives.specs.Settings.{settings_of}
use Rattle.records.specs.Plain.{plain_validator}
use Rattle.records.specs.Books.{tables}
use Rattle.call_answers.specs.Tests.{fails, passes, differs, agrees}
use Rattle.exit_operations.specs.Exits.{exit_tests, exit_unknown, exit_known}
use Rattle.exit_operations.proofs.voluntary_exit_refusal.Goals as goal

pub returns-then-scalars-i : goal.returns-then-scalars-i
returns-then-scalars-i c =
    λ ds cs.
    let a = c.args in
    let t = tables a.books.now.identities.now a.books.now.validators.now ds a.books.now.partials.now cs in
    exit_unknown (settings_of a.sound.settings) a.books.now.scalars t a.i.0 a.epoch.0 a.valid c.if-scalars-i.true

pub returns-then-not-is_active_validator : goal.returns-then-not-is_active_validator
unfolding exit_tests
returns-then-not-is_active_validator c =
    λ ds cs.
    let a = c.args in
    let t = tables a.books.now.identities.now a.books.now.validators.now ds a.books.now.partials.now cs in
    exit_known (settings_of a.sound.settings) a.books.now.scalars t
    a.i.0 a.epoch.0 a.valid (plain_validator c.validator_at-v.result) _ c.if-scalars-i.false
    c.validator_at-v.ensures refl
    (fails _ _ (ap not (sym c.is_active_validator.ensures ∙ c.if-not-is_active_validator.true)))

pub returns-then-v : goal.returns-then-v
unfolding exit_tests
returns-then-v c =
    λ ds cs.
    let a = c.args in
    let t = tables a.books.now.identities.now a.books.now.validators.now ds a.books.now.partials.now cs in
    exit_known (settings_of a.sound.settings) a.books.now.scalars t
    a.i.0 a.epoch.0 a.valid (plain_validator c.validator_at-v.result) _ c.if-scalars-i.false
    c.validator_at-v.ensures refl
    (passes _ _ (ap not (sym c.is_active_validator.ensures ∙ c.if-not-is_active_validator.false))
    (fails _ _ (differs _ _ c.if-v.true)))

pub returns-then-current_epoch-epoch : goal.returns-then-current_epoch-epoch
unfolding exit_tests
returns-then-current_epoch-epoch c =
    λ ds cs.
    let a = c.args in
    let t = tables a.books.now.identities.now a.books.now.validators.now ds a.books.now.partials.now cs in
    exit_known (settings_of a.sound.settings) a.books.now.scalars t
    a.i.0 a.epoch.0 a.valid (plain_validator c.validator_at-v.result) _ c.if-scalars-i.false
    c.validator_at-v.ensures refl
    (passes _ _ (ap not (sym c.is_active_validator.ensures ∙ c.if-not-is_active_validator.false))
    (passes _ _ (agrees _ _ c.if-v.false)
    (fails _ _ (lt-ltb _ _ c.if-current_epoch-epoch.true))))

-- an active validator's activation epoch is no later than the epoch
pub overflow_add-v : goal.overflow_add-v
overflow_add-v c =
    let v = c.validator_at-v.result in
    let epoch = c.args.books.now.scalars.epoch.0 in
    let begun : v.activation_epoch.0 ≤ epoch =
    leb-true v.activation_epoch.0 epoch
    (both (leb v.activation_epoch.0 epoch) (ltb epoch v.exit_epoch.0)
    (sym c.is_active_validator.ensures ∙ c.if-not-is_active_validator.false)).0 in
    omega (arith, begun, c.requires.accounts.epoch, (settings_sound _ c.args.sound.sound).period)

pub returns-then-current_epoch-v : goal.returns-then-current_epoch-v
unfolding exit_tests
returns-then-current_epoch-v c =
    λ ds cs.
    let a = c.args in
    let t = tables a.books.now.identities.now a.books.now.validators.now ds a.books.now.partials.now cs in
    exit_known (settings_of a.sound.settings) a.books.now.scalars t
    a.i.0 a.epoch.0 a.valid (plain_validator c.validator_at-v.result) _ c.if-scalars-i.false
    c.validator_at-v.ensures refl
    (passes _ _ (ap not (sym c.is_active_validator.ensures ∙ c.if-not-is_active_validator.false))
    (passes _ _ (agrees _ _ c.if-v.false)
    (passes _ _ (le-ltb _ _ c.if-current_epoch-epoch.false)
    (fails _ _ (lt-ltb _ _ c.if-current_epoch-v.true)))))

pub returns-then-pending-ne0 : goal.returns-then-pending-ne0
unfolding exit_tests
returns-then-pending-ne0 c =
    λ ds cs.
    let a = c.args in
    let t = tables a.books.now.identities.now a.books.now.validators.now ds a.books.now.partials.now cs in
    exit_known (settings_of a.sound.settings) a.books.now.scalars t
    a.i.0 a.epoch.0 a.valid (plain_validator c.validator_at-v.result) _ c.if-scalars-i.false
    c.validator_at-v.ensures
    (c.get_pending_balance_to_withdraw-pending.ensures a.books.now.identities.now a.books.now.validators.now ds cs)
    (passes _ _ (ap not (sym c.is_active_validator.ensures ∙ c.if-not-is_active_validator.false))
    (passes _ _ (agrees _ _ c.if-v.false)
    (passes _ _ (le-ltb _ _ c.if-current_epoch-epoch.false)
    (passes _ _ (le-ltb _ _ c.if-current_epoch-v.false)
    (fails _ _ (differs _ _ c.if-pending-ne0.true))))))

pub returns-then-not-valid : goal.returns-then-not-valid
unfolding exit_tests
returns-then-not-valid c =
    λ ds cs.
    let a = c.args in
    let t = tables a.books.now.identities.now a.books.now.validators.now ds a.books.now.partials.now cs in
    exit_known (settings_of a.sound.settings) a.books.now.scalars t
    a.i.0 a.epoch.0 a.valid (plain_validator c.validator_at-v.result) _ c.if-scalars-i.false
    c.validator_at-v.ensures
    (c.get_pending_balance_to_withdraw-pending.ensures a.books.now.identities.now a.books.now.validators.now ds cs)
    (passes _ _ (ap not (sym c.is_active_validator.ensures ∙ c.if-not-is_active_validator.false))
    (passes _ _ (agrees _ _ c.if-v.false)
    (passes _ _ (le-ltb _ _ c.if-current_epoch-epoch.false)
    (passes _ _ (le-ltb _ _ c.if-current_epoch-v.false)
    (passes _ _ (agrees _ _ c.if-pending-ne0.false)
    (fails _ _ (ap not c.if-not-valid.true)))))))

pub returns : goal.returns
unfolding exit_tests
returns c =
    λ ds cs.
    let a = c.args in
    let t = tables a.books.now.identities.now a.books.now.validators.now ds a.books.now.partials.now cs in
    exit_known (settings_of a.sound.settings) a.books.now.scalars t
    a.i.0 a.epoch.0 a.valid (plain_validator c.validator_at-v.result) _ c.if-scalars-i.false
    c.validator_at-v.ensures
    (c.get_pending_balance_to_withdraw-pending.ensures a.books.now.identities.now a.books.now.validators.now ds cs)
    (passes _ _ (ap not (sym c.is_active_validator.ensures ∙ c.if-not-is_active_validator.false))
    (passes _ _ (agrees _ _ c.if-v.false)
    (passes _ _ (le-ltb _ _ c.if-current_epoch-epoch.false)
    (passes _ _ (le-ltb _ _ c.if-current_epoch-v.false)
    (passes _ _ (agrees _ _ c.if-pending-ne0.false)
    (passes _ _ (ap not c.if-not-valid.false)
    refl))))))
