use mathlib.Core.Path.{refl, sym, ap, ◌∙◌}
use mathlib.Core.Bool.{Bool}
use mathlib.Core.List.{[]}
use native.Mathlib.Omega.{arith}
use Rattle.rules.specs.BlockProcessing.{apply_deposit}
use Rattle.primitives.specs.Settings.{settings_of}
use Rattle.records.specs.Plain.{plain_validator}
use Rattle.records.specs.Books.{tables, books_of}
use Rattle.call_answers.specs.Tests.{fails, passes}
use Rattle.call_answers.specs.Answers.{judged_same, judged_as}
use Rattle.receipt_operations.specs.Receipts.{known_deposit}
use Rattle.receipt_operations.proofs.Receipts.{switches_eth1, apply_known, apply_unknown}
use Rattle.receipt_operations.proofs.apply_deposit.Goals as goal

pub validator_at-v-requires : goal.validator_at-v-requires
validator_at-v-requires c =
    let ready = c.requires.receipt_ready in
    let known = c.in-Some.ensures [] [] [] [] in (
      omega (arith, known.1, ready.registry, ready.identities),
      omega (arith, known.1, ready.registry, ready.validators),
    )

pub deposit_to_known-requires : goal.deposit_to_known-requires
deposit_to_known-requires c =
    let a = c.args in
    let known = c.in-Some.ensures [] [] [] [] in
    record {
      receipt_ready = c.requires.receipt_ready;
      known_validator = (
        known.1,
        c.validator_at-v.ensures,
        λ e.
            switches_eth1 a.withdrawal_credentials a.valid (plain_validator c.validator_at-v.result)
            (sym c.switches-switch.ensures ∙ e),
      );
      sums_is = c.requires.sums_is;
    }

pub returns-in-Some : goal.returns-in-Some
returns-in-Some c =
    λ ps cs k.
    let a = c.args in
    let S = settings_of a.settings in
    let t = tables a.identities.now a.validators.now a.deposits.now ps cs in
    let known = c.in-Some.ensures a.validators.now a.deposits.now ps cs in
    judged_as (apply_deposit S a.public_key a.withdrawal_credentials a.amount.0 a.valid)
    (ap (λ (switch : Bool). known_deposit S c.in-Some.i.0 a.amount.0 switch (books_of a.scalars t))
    c.switches-switch.ensures
    ∙ apply_known S a.scalars t a.public_key a.withdrawal_credentials a.amount.0 a.valid c.in-Some.i.0 known.0
    (plain_validator c.validator_at-v.result) known.1 c.validator_at-v.ensures)
    (c.deposit_to_known.ensures ps cs k)

pub returns-then-not-valid : goal.returns-then-not-valid
returns-then-not-valid c =
    λ ps cs k.
    let a = c.args in
    let t = tables a.identities.now a.validators.now a.deposits.now ps cs in
    let unknown = c.in_default.ensures a.validators.now a.deposits.now ps cs in
    judged_same k
    (apply_unknown (settings_of a.settings) a.scalars t a.public_key a.withdrawal_credentials a.amount.0 a.valid
    a.scalars.validators unknown (omega arith) (passes _ _ c.if-not-valid.true refl))

pub returns : goal.returns
returns c =
    λ ps cs k.
    let a = c.args in
    let S = settings_of a.settings in
    let t = tables a.identities.now a.validators.now a.deposits.now ps cs in
    let unknown = c.in_default.ensures a.validators.now a.deposits.now ps cs in
    judged_as (apply_deposit S a.public_key a.withdrawal_credentials a.amount.0 a.valid)
    (apply_unknown S a.scalars t a.public_key a.withdrawal_credentials a.amount.0 a.valid a.scalars.validators
    unknown (omega arith) (fails _ _ c.if-not-valid.false))
    (c.add_validator_to_registry.ensures ps cs k)
