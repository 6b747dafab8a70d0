use Rattle.std.proofs.Common.{not}
use Rattle.std.proofs.Common.{refl}
use mathlib.Core.Path.{◌≡◌, ap, sym, ◌∙◌}
use Rattle.primitives.specs.Answers.{refusal_not_0}
use mathlib.Core.List.{[], ◌∷◌}
use lib.Dec.{leb}
use lib.ListN.{length}
use borrow.Author.Tests.{leb-true}
use Rattle.records.specs.Books.{tables}
use Rattle.slices.specs.Exported.{fit_room, fit_test, asked_unfit, asked_fit, unfit_refused}
use Rattle.slices.specs.Exported.{given_refused, given_done}
use Rattle.slices.specs.Withdrawals.{with_records, with_addresses}
use Rattle.solarbasil.specs.Expected.{expected_done}
use Rattle.solarbasil.proofs.expected.solarbasil_get_expected_withdrawals.Goals as goal

pub returns-then-not-expected_fit : goal.returns-then-not-expected_fit
returns-then-not-expected_fit c =
    let lent = tables c.args.identities.now c.args.validators.now c.args.deposits.now c.args.partials.now
    c.args.consolidations.now in
    let others = leb 48 (length c.args.records.now) ∷ leb 320 (length c.args.addresses.now) ∷ [] in
    let z : c.unfit_answer.result ≡ 0 → ⊥ = λ e. unfit_refused _ (sym c.unfit_answer.ensures ∙ e) in
    let a =
    asked_unfit c.args.settings.now others lent c.args.scalars.now c.settings_from-chain.ensures
    c.expected_fit.ensures (ap not c.if-not-expected_fit.true) c.unfit_answer.ensures in
    record {
      answer = a;
      records_given = given_refused _ z;
      addresses_given = given_refused _ z;
      count_given =
          given_refused _ z;
      partial_count_given = given_refused _ z;
    }

pub scalars_from-before-requires : goal.scalars_from-before-requires
scalars_from-before-requires c =
    let others = leb 48 (length c.args.records.now) ∷ leb 320 (length c.args.addresses.now) ∷ [] in
    fit_room c.args.scalars.now
    others
    c.expected_fit.ensures (ap not c.if-not-expected_fit.false)

pub returns-in-Err : goal.returns-in-Err
returns-in-Err c =
    let lent = tables c.args.identities.now c.args.validators.now c.args.deposits.now c.args.partials.now
    c.args.consolidations.now in
    let others = leb 48 (length c.args.records.now) ∷ leb 320 (length c.args.addresses.now) ∷ [] in
    rw c.number.ensures
    (record {
      answer = asked_fit c.args.settings.now others lent c.args.scalars.now c.settings_from-chain.ensures
          c.expected_fit.ensures (ap not c.if-not-expected_fit.false) c.scalars_from-before.ensures
          c.in-Err.ensures.answered;
      records_given = given_refused _ (refusal_not_0 _);
      addresses_given = given_refused _ (refusal_not_0 _);
      count_given = given_refused _ (refusal_not_0 _);
      partial_count_given = given_refused _ (refusal_not_0 _);
    })

pub store_records-requires : goal.store_records-requires
store_records-requires c =
    let others = leb 48 (length c.args.records.now) ∷ leb 320 (length c.args.addresses.now) ∷ [] in
    let t = fit_test c.args.scalars.now others c.expected_fit.ensures (ap not c.if-not-expected_fit.false) 0 in
    leb-true 48 (length c.args.records.now) t

pub store_addresses-requires : goal.store_addresses-requires
store_addresses-requires c =
    let others = leb 48 (length c.args.records.now) ∷ leb 320 (length c.args.addresses.now) ∷ [] in
    let t = fit_test c.args.scalars.now others c.expected_fit.ensures (ap not c.if-not-expected_fit.false) 1 in
    leb-true 320 (length c.args.addresses.now) t

pub returns-in-Ok : goal.returns-in-Ok
returns-in-Ok c =
    let lent = tables c.args.identities.now c.args.validators.now c.args.deposits.now c.args.partials.now
    c.args.consolidations.now in
    let others = leb 48 (length c.args.records.now) ∷ leb 320 (length c.args.addresses.now) ∷ [] in
    let g = c.in-Ok.ensures in
    let e = expected_done _ c.args.settings.now lent c.args.scalars.now _ c.settings_from-chain.ensures
    c.scalars_from-before.ensures g.answered refl g.listed in
    let rs = c.store_records.ensures ∙ ap (λ w. with_records c.args.records.now w.list) e in
    let bs = c.store_addresses.ensures ∙ ap (λ w. with_addresses c.args.addresses.now w.list) e in
    record {
      answer = asked_fit c.args.settings.now others lent c.args.scalars.now c.settings_from-chain.ensures
          c.expected_fit.ensures (ap not c.if-not-expected_fit.false) c.scalars_from-before.ensures g.answered;
      records_given = rs ∙ given_done c.args.records.now refl;
      addresses_given = bs ∙ given_done c.args.addresses.now refl;
      count_given = ap (λ w. w.count) e ∙ given_done c.args.count.now refl;
      partial_count_given = ap (λ w. w.partials) e ∙ given_done c.args.partial_count.now refl;
    }
