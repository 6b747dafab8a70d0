use mathlib.Core.Path.{sym, ◌∙◌}
use Rattle.lists.specs.Base.{when◌then◌else◌}
use Rattle.records.proofs.validator.Validator.get_validator_max_effective_balance.Goals as goal

pub returns-then-has_compounding_withdrawal_credential : goal.returns-then-has_compounding_withdrawal_credential
unfolding when◌then◌else◌
returns-then-has_compounding_withdrawal_credential c =
    simp (sym c.has_compounding_withdrawal_credential.ensures ∙ c.if-has_compounding_withdrawal_credential.true)

pub returns-else-has_compounding_withdrawal_credential : goal.returns-else-has_compounding_withdrawal_credential
unfolding when◌then◌else◌
returns-else-has_compounding_withdrawal_credential c =
    simp (sym c.has_compounding_withdrawal_credential.ensures ∙ c.if-has_compounding_withdrawal_credential.false)
