use Rattle.std.proofs.Math.Bool.{not-not}
use mathlib.Core.Path.{◌≡◌, sym, ap, ◌∙◌}
use mathlib.Core.Bool.{Bool, false, not, ◌&&◌}
use Prim.Native.Nat.{◌+◌, ◌≤◌}
use native.Mathlib.Omega.{arith}
use borrow.Author.Tests.{leb-true}
use lib.Dec.{leb, ltb}
use Rattle.lists.specs.Base.{same_bytes}
use Rattle.lists.specs.Laws.{both, and_false, join}
use Rattle.rules.specs.Helpers.{withdrawal_address, has_execution_withdrawal_credential}
use Rattle.rule_laws.specs.Accepted.{settings_sound}
use Rattle.records.specs.Plain.{plain_validator}
use Rattle.call_answers.specs.Tests.{fails, passes, differs, agrees}
use Rattle.request_operations.specs.Requests.{may_request, not_later}
use Rattle.request_operations.proofs.may_request.Goals as goal

pub returns-then-not-has_execution_withdrawal_credential : goal.returns-then-not-has_execution_withdrawal_credential
unfolding may_request
returns-then-not-has_execution_withdrawal_credential c =
    let v = plain_validator c.args.v in
    let none : has_execution_withdrawal_credential v ≡ false =
    sym c.has_execution_withdrawal_credential.ensures ∙ c.if-not-has_execution_withdrawal_credential.true in
    let address = c.args.source_address in
    fails _ _ (ap (λ (x : Bool). not (x && same_bytes (withdrawal_address v) address)) none)

pub returns-then-ne : goal.returns-then-ne
unfolding may_request
returns-then-ne c =
    let a = c.args in
    let same =
    ap not c.ne.ensures ∙ not-not _ ∙ ap (λ x. same_bytes x a.source_address) c.withdrawal_address-address.ensures in
    fails _ _
    (ap not
    (and_false (has_execution_withdrawal_credential (plain_validator a.v)) _
    (sym same ∙ ap not c.if-ne.true)))

pub returns-then-not-is_active_validator : goal.returns-then-not-is_active_validator
unfolding may_request
returns-then-not-is_active_validator c =
    let a = c.args in
    let same =
    ap not c.ne.ensures ∙ not-not _ ∙ ap (λ x. same_bytes x a.source_address) c.withdrawal_address-address.ensures in
    let own =
    ap not
    (join
    (sym c.has_execution_withdrawal_credential.ensures ∙ c.if-not-has_execution_withdrawal_credential.false)
    (sym same ∙ ap not c.if-ne.false)) in
    passes _ _ own
    (fails _ _ (ap not (sym c.is_active_validator.ensures ∙ c.if-not-is_active_validator.true)))

pub returns-then-v-ne-FAR_FUTURE_EPOCH : goal.returns-then-v-ne-FAR_FUTURE_EPOCH
unfolding may_request
returns-then-v-ne-FAR_FUTURE_EPOCH c =
    let a = c.args in
    let same =
    ap not c.ne.ensures ∙ not-not _ ∙ ap (λ x. same_bytes x a.source_address) c.withdrawal_address-address.ensures in
    let own =
    ap not
    (join
    (sym c.has_execution_withdrawal_credential.ensures ∙ c.if-not-has_execution_withdrawal_credential.false)
    (sym same ∙ ap not c.if-ne.false)) in
    passes _ _ own
    (passes _ _ (ap not (sym c.is_active_validator.ensures ∙ c.if-not-is_active_validator.false))
    (fails _ _ (differs _ _ c.if-v-ne-FAR_FUTURE_EPOCH.true)))

-- an active validator's activation epoch is no later than the epoch
pub overflow_add-result : goal.overflow_add-result
overflow_add-result c =
    let v = c.args.v in
    let epoch = c.args.current_epoch.0 in
    let begun : v.activation_epoch.0 ≤ epoch =
    leb-true v.activation_epoch.0 epoch
    (both (leb v.activation_epoch.0 epoch) (ltb epoch v.exit_epoch.0)
    (sym c.is_active_validator.ensures ∙ c.if-not-is_active_validator.false)).0 in
    omega (arith, begun, c.requires.current_epoch_bound, (settings_sound _ c.args.sound.sound).period)

pub returns : goal.returns
unfolding may_request
returns c =
    let a = c.args in
    let same =
    ap not c.ne.ensures ∙ not-not _ ∙ ap (λ x. same_bytes x a.source_address) c.withdrawal_address-address.ensures in
    let own =
    ap not
    (join
    (sym c.has_execution_withdrawal_credential.ensures ∙ c.if-not-has_execution_withdrawal_credential.false)
    (sym same ∙ ap not c.if-ne.false)) in
    passes _ _ own
    (passes _ _ (ap not (sym c.is_active_validator.ensures ∙ c.if-not-is_active_validator.false))
    (passes _ _ (agrees _ _ c.if-v-ne-FAR_FUTURE_EPOCH.false)
    (not_later (a.v.activation_epoch.0 + a.sound.settings.shard_committee_period) a.current_epoch.0)))
