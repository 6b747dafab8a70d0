use Rattle.std.proofs.Common.{ap, not, arith}
use mathlib.Core.Path.{ap₂}
use mathlib.Core.List.{[], ◌∷◌}
use lib.Dec.{eqb}
use lib.ListN.{length}
use borrow.Author.Tests.{eqb-true}
use Rattle.rules.specs.Calls.{withdrawal_request}
use Rattle.records.specs.Books.{called_as}
use Rattle.slices.specs.Exported.{fit_room, fit_test, exported_unfit, exported_answered}
use Rattle.solarbasil.proofs.requests.solarbasil_process_execution_layer_withdrawal_request.Goals as goal

pub returns-then-not-request_fits : goal.returns-then-not-request_fits
returns-then-not-request_fits c =
    exported_unfit c.settings_from-chain.ensures c.request_fits.ensures (ap not c.if-not-request_fits.true)
    c.unfit_answer.ensures

pub scalars_from-before-requires : goal.scalars_from-before-requires
scalars_from-before-requires c =
    let others = eqb (length c.args.source_address.now) 20 ∷ eqb (length c.args.public_key.now) 48 ∷ [] in
    fit_room c.args.scalars.now
    others
    c.request_fits.ensures (ap not c.if-not-request_fits.false)

pub fixed-address-requires : goal.fixed-address-requires
fixed-address-requires c =
    let others = eqb (length c.args.source_address.now) 20 ∷ eqb (length c.args.public_key.now) 48 ∷ [] in
    let t = fit_test c.args.scalars.now others c.request_fits.ensures (ap not c.if-not-request_fits.false) 0 in
    (omega arith, eqb-true (length c.args.source_address.now) 20 t)

pub fixed-key-requires : goal.fixed-key-requires
fixed-key-requires c =
    let others = eqb (length c.args.source_address.now) 20 ∷ eqb (length c.args.public_key.now) 48 ∷ [] in
    let t = fit_test c.args.scalars.now others c.request_fits.ensures
    (ap not c.if-not-request_fits.false) 1 in
    (omega arith, eqb-true (length c.args.public_key.now) 48 t)

pub store_answer-requires : goal.store_answer-requires
store_answer-requires c =
    let others = eqb (length c.args.source_address.now) 20 ∷ eqb (length c.args.public_key.now) 48 ∷ [] in
    fit_room c.args.scalars.now
    others
    c.request_fits.ensures (ap not c.if-not-request_fits.false)

pub returns : goal.returns
returns c =
    exported_answered _ c.settings_from-chain.ensures c.request_fits.ensures
    (ap not c.if-not-request_fits.false) c.scalars_from-before.ensures (called_as
    (ap₂ (λ a k. withdrawal_request a k c.args.amount)
    c.fixed-address.ensures c.fixed-key.ensures)
    c.process_execution_layer_withdrawal_request-answer.ensures)
    c.store_answer.ensures.number c.store_answer.ensures.stored
