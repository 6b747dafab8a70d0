use mathlib.Core.Path.{◌≡◌}
use Prim.Native.Nat.{◌+◌}
use lib.ListN.{drop}
use Rattle.lists.specs.Base.{total}
use Rattle.tables.specs.Rows.{rows}
use Rattle.rules.specs.Helpers.{owed_to}
use Rattle.records.specs.Layout.{partial_at}
use Rattle.helpers.proofs.lookups.get_pending_balance_to_withdraw.Given as goal

abbrev pub invariant-loop-k : goal.invariant-loop-k
invariant-loop-k l =
    l.sum + total (owed_to l.i.0) (drop l.k (rows l.fn.scalars.partials (partial_at l.partials)))
    ≡ total (owed_to l.i.0) (rows l.fn.scalars.partials (partial_at l.partials))
