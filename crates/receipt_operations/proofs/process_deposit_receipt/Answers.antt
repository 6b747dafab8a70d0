use mathlib.Core.Path.{refl}
use Rattle.rules.specs.BlockProcessing.{process_deposit_receipt}
use Rattle.rules.specs.Calls.{own_refusal, result, deposit_receipt}
use Rattle.primitives.specs.Settings.{settings_of}
use Rattle.records.specs.Books.{tables}
use Rattle.acceptance.specs.Handed.{facts}
use Rattle.call_answers.specs.Answers.{judged_called, judged_as}
use Rattle.receipt_operations.specs.Receipts.{started_ready, started_accepted, started_answered}
use Rattle.receipt_operations.specs.Receipts.{started_sums}
use Rattle.receipt_operations.proofs.process_deposit_receipt.Goals as goal

pub apply_deposit-requires : goal.apply_deposit-requires
apply_deposit-requires c =
    let a = c.args in
    let held = tables a.identities.now a.validators.now a.deposits.now a.partials.now a.consolidations.now in
    let q = c.start_receipts-start.result in
    record {
      receipt_ready =
          started_ready (settings_of a.settings) a.scalars q a.index held c.start_receipts-start.ensures
          (facts (settings_of a.settings) a.scalars held c.requires.accepted);
      sums_is = λ ids ps cs.
          started_sums a.scalars q a.index held c.start_receipts-start.ensures ids ps cs a.amount.0
          c.requires.sums_is;
    }

pub returns : goal.returns
unfolding own_refusal result process_deposit_receipt
returns c =
    let a = c.args in
    let held = tables a.identities.now a.validators.now a.deposits.now a.partials.now a.consolidations.now in
    let S = settings_of a.settings in
    let q = c.start_receipts-start.result in
    let f = facts S a.scalars held c.requires.accepted in
    judged_called {op = deposit_receipt a.public_key a.withdrawal_credentials a.amount.0 a.index a.valid}
    c.requires.accepted refl
    (judged_as _ refl
    (started_answered S a.scalars q a.index held c.start_receipts-start.ensures
    c.apply_deposit.result (c.apply_deposit.ensures a.partials.now a.consolidations.now
    (started_accepted S a.scalars q a.index held c.start_receipts-start.ensures f.books))))
