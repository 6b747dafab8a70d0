use Rattle.std.proofs.Common.{◌≡◌, Err, rules, sym, ap, ◌∙◌}
use Prim.Native.Nat.{ℕ, ◌+◌}
use native.Mathlib.Omega.{arith}
use lib.Dec.{leb}
use Rattle.rules.specs.Types.{BOUND}
use Rattle.acceptance.specs.Handed.{facts}
use Rattle.acceptance.specs.Total.{total_held}
use Rattle.primitives.specs.Answers.{refusal_not_0}
use Rattle.call_answers.specs.Called.{handed_refused}
use Rattle.operations.proofs.deposit_receipts.process_deposit_receipt.Goals as goal

pub returns-in_err-held : goal.returns-in_err-held
returns-in_err-held c =
    let e : c.from_residual.result ≡ Err c.in_err-held.field-0.0 = search rules in
    rw e (handed_refused _ _ _ _ _ c.in_err-held.ensures.number_value (refusal_not_0 _))

-- accepted, and the sum
pub sum_within-sums-requires : goal.sum_within-sums-requires
sum_within-sums-requires c =
    let accepted = sym c.in_ok-held.ensures.number_value in
    let summed = total_held _ _ _ accepted c.in_ok-held.ensures.held_value in
    omega (arith, summed, (facts _ _ _ accepted).books.held_small)

pub process_deposit_receipt-requires : goal.process_deposit_receipt-requires
process_deposit_receipt-requires c =
    let accepted = sym c.in_ok-held.ensures.number_value in
    let summed = total_held _ _ _ accepted c.in_ok-held.ensures.held_value in record {
      accepted = accepted;
      sums_is = c.sum_within-sums.ensures ∙ ap (λ (n : ℕ). leb (n + c.args.amount.0) BOUND) summed;
    }
