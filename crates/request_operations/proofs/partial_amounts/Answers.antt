use mathlib.Core.Path.{ap}
use native.Mathlib.Omega.{arith}
use Rattle.tables.specs.Totals.{total_step, total_end}
use Rattle.records.specs.Layout.{partial_at}
use Rattle.records.specs.Books.{books_of}
use Rattle.request_operations.proofs.partial_amounts.Invariants.{amount_of}
use Rattle.request_operations.proofs.partial_amounts.Goals as goal

pub overflow_add-sum : goal.overflow_add-sum
overflow_add-sum c =
    let a = c.args in
    let l = c.loop-k in
    omega (
      arith,
      ap amount_of c.entry_at-sum.ensures,
      total_step amount_of a.scalars.partials (partial_at a.partials.now) l.k (omega arith),
      c.requires.amounts,
    )

pub loop-k-preserved : goal.loop-k-preserved
loop-k-preserved c =
    let a = c.args in
    let l = c.loop-k in
    omega (
      arith,
      ap amount_of c.entry_at-sum.ensures,
      total_step amount_of a.scalars.partials (partial_at a.partials.now) l.k (omega arith),
    )

pub returns : goal.returns
unfolding books_of
returns c =
    λ ids vs ds cs.
    let a = c.args in
    let l = c.loop-k in
    omega (
      arith,
      total_end amount_of a.scalars.partials (partial_at a.partials.now) l.k (omega arith),
    )
