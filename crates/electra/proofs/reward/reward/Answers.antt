use Rattle.std.proofs.Common.{◌≡◌, Err, rules, sym, ap, ◌∙◌}
use Prim.Native.Nat.{ℕ, ◌+◌}
use native.Mathlib.Omega.{arith}
use lib.Dec.{leb}
use Rattle.rules.specs.Types.{BOUND}
use Rattle.acceptance.specs.Handed.{facts}
use Rattle.acceptance.specs.Total.{total_held}
use Rattle.primitives.specs.Answers.{refusal_not_0}
use Rattle.call_answers.specs.Called.{handed_refused}
use Rattle.electra.proofs.reward.reward.Goals as goal

pub returns-in_err-held : goal.returns-in_err-held
returns-in_err-held c =
    let e : c.from_residual.result ≡ Err c.in_err-held.field-0.0 = search rules in
    rw e (handed_refused _ _ _ _ _ c.in_err-held.ensures.number_value (refusal_not_0 _))

pub sum_within-sums-requires : goal.sum_within-sums-requires
sum_within-sums-requires c =
    let h = c.in_ok-held.ensures in
    let z = sym h.number_value in
    omega (arith, total_held _ _ _ z h.held_value, (facts _ _ _ z).books.held_small)

pub reward_accepted-requires : goal.reward_accepted-requires
reward_accepted-requires c =
    let h = c.in_ok-held.ensures in
    let z = sym h.number_value in
    record {
      accepted = z;
      sums_within = c.sum_within-sums.ensures
          ∙ ap (λ (n : ℕ). leb (n + c.args.amount.0) BOUND) (total_held _ _ _ z h.held_value);
    }
