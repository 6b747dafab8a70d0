use Rattle.std.proofs.Common.{ap, not, arith}
use mathlib.Core.Path.{ap₂}
use mathlib.Core.List.{[], ◌∷◌}
use lib.Dec.{eqb}
use lib.ListN.{length}
use borrow.Author.Tests.{eqb-true}
use Rattle.rules.specs.Calls.{deposit_receipt}
use Rattle.records.specs.Books.{called_as}
use Rattle.slices.specs.Exported.{fit_room, fit_test, exported_unfit, exported_answered}
use Rattle.solarbasil.proofs.deposit_receipts.solarbasil_process_deposit_receipt.Goals as goal

pub returns-then-not-receipt_fits : goal.returns-then-not-receipt_fits
returns-then-not-receipt_fits c =
    exported_unfit c.settings_from-chain.ensures c.receipt_fits.ensures (ap not c.if-not-receipt_fits.true)
    c.unfit_answer.ensures

pub scalars_from-before-requires : goal.scalars_from-before-requires
scalars_from-before-requires c =
    let others = eqb (length c.args.public_key.now) 48 ∷ eqb (length c.args.withdrawal_credentials.now) 32 ∷ [] in
    fit_room c.args.scalars.now
    others
    c.receipt_fits.ensures (ap not c.if-not-receipt_fits.false)

pub fixed-key-requires : goal.fixed-key-requires
fixed-key-requires c =
    let others = eqb (length c.args.public_key.now) 48 ∷ eqb (length c.args.withdrawal_credentials.now) 32 ∷ [] in
    let t = fit_test c.args.scalars.now others c.receipt_fits.ensures (ap not c.if-not-receipt_fits.false) 0 in
    (omega arith, eqb-true (length c.args.public_key.now) 48 t)

pub fixed-credentials-requires : goal.fixed-credentials-requires
fixed-credentials-requires c =
    let others = eqb (length c.args.public_key.now) 48 ∷ eqb (length c.args.withdrawal_credentials.now) 32 ∷ [] in
    let t = fit_test c.args.scalars.now others c.receipt_fits.ensures
    (ap not c.if-not-receipt_fits.false) 1 in
    (omega arith, eqb-true (length c.args.withdrawal_credentials.now) 32 t)

pub store_answer-requires : goal.store_answer-requires
store_answer-requires c =
    let others = eqb (length c.args.public_key.now) 48 ∷ eqb (length c.args.withdrawal_credentials.now) 32 ∷ [] in
    fit_room c.args.scalars.now
    others
    c.receipt_fits.ensures (ap not c.if-not-receipt_fits.false)

pub returns : goal.returns
returns c =
    exported_answered _ c.settings_from-chain.ensures c.receipt_fits.ensures
    (ap not c.if-not-receipt_fits.false) c.scalars_from-before.ensures (called_as
    (ap₂ (λ k w. deposit_receipt k w c.args.amount c.args.index c.args.valid)
    c.fixed-key.ensures c.fixed-credentials.ensures)
    c.process_deposit_receipt-answer.ensures) c.store_answer.ensures.number c.store_answer.ensures.stored
