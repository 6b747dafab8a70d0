-- The sum so far and what is left are the whole, and what was seen tells of the validators so far.
use Rattle.std.proofs.Common.{arith}
use Rattle.tables.specs.Totals.{total_step, total_end}
use Rattle.records.specs.Layout.{balance_at}
use Rattle.acceptance.specs.Quick.{seen_more, small_sum}
use Rattle.acceptance.proofs.quick.small_sum.Invariants.{low}
use Rattle.acceptance.proofs.quick.small_sum.Goals as goal

pub loop-i-preserved : goal.loop-i-preserved
loop-i-preserved c =
    let l = c.loop-i in
    let a = c.args in
    let step = total_step low a.n (balance_at a.validators.now) l.i (omega arith) in (
      omega arith,
      omega (arith, step, c.balance_at-balance.ensures),
      rw (c.slashed_at-flags.ensures, c.balance_at-balance.ensures)
          (seen_more c.validator_bits-bits.result l.invariant.2 c.validator_bits-bits.ensures),
    )

pub returns : goal.returns
returns c ids =
    let l = c.loop-i in
    let a = c.args in
    small_sum a.most.0 a.validators.now a.n l.sum c.requires.1
    (λ j p. l.invariant.2 (omega arith) (omega arith) (omega arith) j (omega arith))
    (omega (arith, total_end low a.n (balance_at a.validators.now) l.i (omega arith)))
    ids
