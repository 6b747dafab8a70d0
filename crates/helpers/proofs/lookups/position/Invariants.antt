use mathlib.Core.Path.{◌≡◌}
use mathlib.Core.List.{List}
use Prim.Native.Nat.{ℕ, ◌+◌}
use lib.ListN.{drop}
use Rattle.tables.specs.Rows.{rows}
use Rattle.rules.specs.Helpers.{position}
use Rattle.records.specs.Layout.{validator_at}
use Rattle.helpers.proofs.lookups.position.Given as goal

abbrev pub invariant-loop-i : goal.invariant-loop-i
invariant-loop-i l =
    (vs : List ℕ)
    → l.i + position l.public_key (drop l.i (rows l.fn.scalars.validators (validator_at l.identities vs)))
    ≡ position l.public_key (rows l.fn.scalars.validators (validator_at l.identities vs))
