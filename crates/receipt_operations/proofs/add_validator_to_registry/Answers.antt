use Rattle.std.proofs.Common.{Err, refl, rules, ◌∙◌, ◌≡◌}
use Rattle.primitives.specs.Answers.{refusal_not_0}
use mathlib.Core.Bool.{◌&&◌}
use Prim.Native.Nat.{◌+◌}
use lib.Dec.{leb}
use Rattle.primitives.specs.Settings.{settings_of}
use Rattle.records.specs.Books.{tables}
use Rattle.call_answers.specs.Answers.{judged_done, judged_refused}
use Rattle.receipt_operations.proofs.Receipts.{added_number, added_stepped}
use Rattle.receipt_operations.proofs.Sizes.{sums_known}
use Rattle.receipt_operations.proofs.add_validator_to_registry.Goals as goal

pub returns-in_err-size_number : goal.returns-in_err-size_number
returns-in_err-size_number c =
    let e : c.from_residual.result ≡ Err c.in_err-size_number.field-0.0 = search rules in
    rw e (
    λ ps cs k.
    let a = c.args in
    let t = tables a.identities.now a.validators.now a.deposits.now ps cs in
    judged_refused
    (sums_known
    (leb (a.scalars.validators + 1) a.settings.validator_registry_limit
    && leb (a.scalars.deposits + 1) a.settings.pending_balance_deposits_limit)
    c.in_err-size_number.ensures (c.requires.sums_is a.identities.now ps cs)
    ∙ added_number (settings_of a.settings) a.scalars t k a.public_key a.withdrawal_credentials a.amount.0)
    (refusal_not_0 _))

pub returns : goal.returns
returns c =
    λ ps cs k.
    let a = c.args in
    let t = tables a.identities.now a.validators.now a.deposits.now ps cs in
    judged_done
    (sums_known
    (leb (a.scalars.validators + 1) a.settings.validator_registry_limit
    && leb (a.scalars.deposits + 1) a.settings.pending_balance_deposits_limit)
    c.in_ok-size_number.ensures (c.requires.sums_is a.identities.now ps cs)
    ∙ added_number (settings_of a.settings) a.scalars t k a.public_key a.withdrawal_credentials a.amount.0)
    (added_stepped a.scalars a.public_key a.withdrawal_credentials a.amount.0 a.identities.now
    a.validators.now a.deposits.now _ _ _ c.get_validator_from_deposit-v.ensures
    c.push_validator.ensures c.push.ensures
    refl ps cs)
