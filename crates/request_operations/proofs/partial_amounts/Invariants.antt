use mathlib.Core.Path.{◌≡◌}
use Prim.Native.Nat.{ℕ, ◌+◌}
use lib.ListN.{drop}
use Rattle.lists.specs.Base.{total}
use Rattle.tables.specs.Rows.{rows}
use Rattle.rules.specs.Types.{PendingPartialWithdrawal}
use Rattle.records.specs.Layout.{partial_at}
use Rattle.request_operations.proofs.partial_amounts.Given as goal

abbrev pub amount_of : PendingPartialWithdrawal → ℕ
amount_of p = p.amount

abbrev pub invariant-loop-k : goal.invariant-loop-k
invariant-loop-k l =
    let n = l.fn.scalars.partials in
    l.sum + total amount_of (drop l.k (rows n (partial_at l.partials)))
    ≡ total amount_of (rows n (partial_at l.partials))
