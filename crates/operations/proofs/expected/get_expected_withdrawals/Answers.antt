use Rattle.std.proofs.Common.{◌≡◌, refl, sym, Err, rules}
use Rattle.primitives.specs.Answers.{refusal_not_0}
use Rattle.operations.specs.Payments.{listing_ready}
use Rattle.operations.specs.Expected.{expected_refused, expected_known}
use Rattle.operations.proofs.expected.get_expected_withdrawals.Goals as goal

pub returns-in_err-accept : goal.returns-in_err-accept
returns-in_err-accept c =
    let e : c.from_residual.result ≡ Err c.in_err-accept.field-0.0 = search rules in
    let handed = c.in_err-accept.ensures.number_value in
    rw e (record { answered = handed; listed = expected_refused _ _ _ handed (refusal_not_0 _) refl })

pub get_expected_withdrawals-requires : goal.get_expected_withdrawals-requires
get_expected_withdrawals-requires c = listing_ready _ _ _ (sym c.in_ok-accept.ensures.number_value)

pub returns : goal.returns
returns c = record {
  answered = c.in_ok-accept.ensures.number_value;
  listed = expected_known _ _ _ (sym c.in_ok-accept.ensures.number_value)
      (c.get_expected_withdrawals.ensures c.args.books.now.deposits.now c.args.books.now.consolidations.now);
}
