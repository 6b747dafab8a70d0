use Rattle.std.proofs.Common.{rules}
use Rattle.slices.proofs.Made.{made_rows}
use Rattle.slices.proofs.withdrawals.withdrawals_from.Goals as goal

pub returns : goal.returns
returns c = made_rows _ c.from_fn.ensures.items (λ j y q k. search rules)
