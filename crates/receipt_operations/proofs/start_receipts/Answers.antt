use mathlib.Core.Path.{refl, ap}
use borrow.Author.Tests.{eq-eqb, ne_eqb}
use Rattle.primitives.specs.Scalars.{with_receipts_start}
use Rattle.call_answers.specs.Tests.{fails, passes}
use Rattle.receipt_operations.proofs.start_receipts.Goals as goal

pub returns-then-scalars-ne-FAR_FUTURE_EPOCH : goal.returns-then-scalars-ne-FAR_FUTURE_EPOCH
returns-then-scalars-ne-FAR_FUTURE_EPOCH c =
    ap (with_receipts_start c.args.scalars) (passes _ _ (ne_eqb _ _ c.if-scalars-ne-FAR_FUTURE_EPOCH.true) refl)

pub returns : goal.returns
returns c =
    ap (with_receipts_start c.args.scalars)
    (fails _ _ (eq-eqb _ _ c.if-scalars-ne-FAR_FUTURE_EPOCH.false))
