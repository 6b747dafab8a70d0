use mathlib.Core.Path.{◌≡◌}
use mathlib.Core.List.{List}
use Prim.Native.Nat.{ℕ, ◌+◌}
use lib.ListN.{drop}
use Rattle.lists.specs.Base.{total}
use Rattle.tables.specs.Rows.{rows}
use Rattle.rules.specs.Helpers.{active_effective_balance}
use Rattle.records.specs.Layout.{validator_at}
use Rattle.helpers.proofs.churn.get_total_active_balance.Given as goal

abbrev pub invariant-loop-i : goal.invariant-loop-i
invariant-loop-i l =
    (ids : List ℕ)
    → l.sum
    + total (active_effective_balance l.epoch.0)
    (drop l.i (rows l.fn.scalars.validators (validator_at ids l.validators)))
    ≡ total (active_effective_balance l.epoch.0) (rows l.fn.scalars.validators (validator_at ids l.validators))
