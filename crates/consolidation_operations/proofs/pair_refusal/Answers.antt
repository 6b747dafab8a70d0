use mathlib.Core.Path.{refl, sym, ap, ap₂, ◌∙◌}
use mathlib.Core.Bool.{not}
use borrow.Author.Tests.{lt-ltb, le-ltb}
use Rattle.lists.specs.Base.{same_bytes}
use Rattle.call_answers.specs.Tests.{fails, passes, differs, agrees}
use Rattle.consolidation_operations.specs.Consolidations.{pair_refusal}
use Rattle.consolidation_operations.proofs.pair_refusal.Goals as goal

pub returns-then-not-is_active_validator : goal.returns-then-not-is_active_validator
unfolding pair_refusal
returns-then-not-is_active_validator c =
    (fails _ _ (ap not (sym c.is_active_validator.ensures ∙ c.if-not-is_active_validator.true)))

pub returns-then-not-is_active_validator-2 : goal.returns-then-not-is_active_validator-2
unfolding pair_refusal
returns-then-not-is_active_validator-2 c =
    (passes _ _ (ap not (sym c.is_active_validator.ensures ∙ c.if-not-is_active_validator.false))
    (fails _ _ (ap not (sym c.is_active_validator-2.ensures ∙ c.if-not-is_active_validator-2.true))))

pub returns-then-source-ne-FAR_FUTURE_EPOCH : goal.returns-then-source-ne-FAR_FUTURE_EPOCH
unfolding pair_refusal
returns-then-source-ne-FAR_FUTURE_EPOCH c =
    (passes _ _ (ap not (sym c.is_active_validator.ensures ∙ c.if-not-is_active_validator.false))
    (passes _ _ (ap not (sym c.is_active_validator-2.ensures ∙ c.if-not-is_active_validator-2.false))
    (fails _ _ (differs _ _ c.if-source-ne-FAR_FUTURE_EPOCH.true))))

pub returns-then-target-ne-FAR_FUTURE_EPOCH : goal.returns-then-target-ne-FAR_FUTURE_EPOCH
unfolding pair_refusal
returns-then-target-ne-FAR_FUTURE_EPOCH c =
    (passes _ _ (ap not (sym c.is_active_validator.ensures ∙ c.if-not-is_active_validator.false))
    (passes _ _ (ap not (sym c.is_active_validator-2.ensures ∙ c.if-not-is_active_validator-2.false))
    (passes _ _ (agrees _ _ c.if-source-ne-FAR_FUTURE_EPOCH.false)
    (fails _ _ (differs _ _ c.if-target-ne-FAR_FUTURE_EPOCH.true)))))

pub returns-then-current_epoch-epoch : goal.returns-then-current_epoch-epoch
unfolding pair_refusal
returns-then-current_epoch-epoch c =
    (passes _ _ (ap not (sym c.is_active_validator.ensures ∙ c.if-not-is_active_validator.false))
    (passes _ _ (ap not (sym c.is_active_validator-2.ensures ∙ c.if-not-is_active_validator-2.false))
    (passes _ _ (agrees _ _ c.if-source-ne-FAR_FUTURE_EPOCH.false)
    (passes _ _ (agrees _ _ c.if-target-ne-FAR_FUTURE_EPOCH.false)
    (fails _ _ (lt-ltb _ _ c.if-current_epoch-epoch.true))))))

pub returns-then-not-has_execution_withdrawal_credential : goal.returns-then-not-has_execution_withdrawal_credential
unfolding pair_refusal
returns-then-not-has_execution_withdrawal_credential c =
    (passes _ _ (ap not (sym c.is_active_validator.ensures ∙ c.if-not-is_active_validator.false))
    (passes _ _ (ap not (sym c.is_active_validator-2.ensures ∙ c.if-not-is_active_validator-2.false))
    (passes _ _ (agrees _ _ c.if-source-ne-FAR_FUTURE_EPOCH.false)
    (passes _ _ (agrees _ _ c.if-target-ne-FAR_FUTURE_EPOCH.false)
    (passes _ _ (le-ltb _ _ c.if-current_epoch-epoch.false)
    (fails _ _ (ap not
    (sym c.has_execution_withdrawal_credential.ensures ∙ c.if-not-has_execution_withdrawal_credential.true))))))))

pub returns-then-not-has_execution_withdrawal_credential-2 : goal.returns-then-not-has_execution_withdrawal_credential-2
unfolding pair_refusal
returns-then-not-has_execution_withdrawal_credential-2 c =
    (passes _ _ (ap not (sym c.is_active_validator.ensures ∙ c.if-not-is_active_validator.false))
    (passes _ _ (ap not (sym c.is_active_validator-2.ensures ∙ c.if-not-is_active_validator-2.false))
    (passes _ _ (agrees _ _ c.if-source-ne-FAR_FUTURE_EPOCH.false)
    (passes _ _ (agrees _ _ c.if-target-ne-FAR_FUTURE_EPOCH.false)
    (passes _ _ (le-ltb _ _ c.if-current_epoch-epoch.false)
    (passes _ _ (ap not
    (sym c.has_execution_withdrawal_credential.ensures ∙ c.if-not-has_execution_withdrawal_credential.false))
    (fails _ _ (ap not
    (sym c.has_execution_withdrawal_credential-2.ensures ∙ c.if-not-has_execution_withdrawal_credential-2.true)))))))))

pub returns-then-ne : goal.returns-then-ne
unfolding pair_refusal
returns-then-ne c =
    (passes _ _ (ap not (sym c.is_active_validator.ensures ∙ c.if-not-is_active_validator.false))
    (passes _ _ (ap not (sym c.is_active_validator-2.ensures ∙ c.if-not-is_active_validator-2.false))
    (passes _ _ (agrees _ _ c.if-source-ne-FAR_FUTURE_EPOCH.false)
    (passes _ _ (agrees _ _ c.if-target-ne-FAR_FUTURE_EPOCH.false)
    (passes _ _ (le-ltb _ _ c.if-current_epoch-epoch.false)
    (passes _ _ (ap not
    (sym c.has_execution_withdrawal_credential.ensures ∙ c.if-not-has_execution_withdrawal_credential.false))
    (passes _ _ (ap not
    (sym c.has_execution_withdrawal_credential-2.ensures ∙ c.if-not-has_execution_withdrawal_credential-2.false))
    (fails _ _ (sym (c.ne.ensures
    ∙ ap₂ (λ x y. not (same_bytes x y)) c.withdrawal_address-source_address.ensures
    c.withdrawal_address-target_address.ensures)
    ∙ c.if-ne.true)))))))))

pub returns-then-not-valid : goal.returns-then-not-valid
unfolding pair_refusal
returns-then-not-valid c =
    (passes _ _ (ap not (sym c.is_active_validator.ensures ∙ c.if-not-is_active_validator.false))
    (passes _ _ (ap not (sym c.is_active_validator-2.ensures ∙ c.if-not-is_active_validator-2.false))
    (passes _ _ (agrees _ _ c.if-source-ne-FAR_FUTURE_EPOCH.false)
    (passes _ _ (agrees _ _ c.if-target-ne-FAR_FUTURE_EPOCH.false)
    (passes _ _ (le-ltb _ _ c.if-current_epoch-epoch.false)
    (passes _ _ (ap not
    (sym c.has_execution_withdrawal_credential.ensures ∙ c.if-not-has_execution_withdrawal_credential.false))
    (passes _ _ (ap not
    (sym c.has_execution_withdrawal_credential-2.ensures ∙ c.if-not-has_execution_withdrawal_credential-2.false))
    (passes _ _ (sym (c.ne.ensures
    ∙ ap₂ (λ x y. not (same_bytes x y)) c.withdrawal_address-source_address.ensures
    c.withdrawal_address-target_address.ensures)
    ∙ c.if-ne.false)
    (fails _ _ (ap not c.if-not-valid.true))))))))))

pub returns : goal.returns
unfolding pair_refusal
returns c =
    (passes _ _ (ap not (sym c.is_active_validator.ensures ∙ c.if-not-is_active_validator.false))
    (passes _ _ (ap not (sym c.is_active_validator-2.ensures ∙ c.if-not-is_active_validator-2.false))
    (passes _ _ (agrees _ _ c.if-source-ne-FAR_FUTURE_EPOCH.false)
    (passes _ _ (agrees _ _ c.if-target-ne-FAR_FUTURE_EPOCH.false)
    (passes _ _ (le-ltb _ _ c.if-current_epoch-epoch.false)
    (passes _ _ (ap not
    (sym c.has_execution_withdrawal_credential.ensures ∙ c.if-not-has_execution_withdrawal_credential.false))
    (passes _ _ (ap not
    (sym c.has_execution_withdrawal_credential-2.ensures ∙ c.if-not-has_execution_withdrawal_credential-2.false))
    (passes _ _ (sym (c.ne.ensures
    ∙ ap₂ (λ x y. not (same_bytes x y)) c.withdrawal_address-source_address.ensures
    c.withdrawal_address-target_address.ensures)
    ∙ c.if-ne.false)
    (passes _ _ (ap not c.if-not-valid.false)
    refl)))))))))
