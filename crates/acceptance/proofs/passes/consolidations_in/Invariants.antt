-- The loop keeps whether every consolidation that is left passes.
use Rattle.std.proofs.Common.{◌≡◌, drop}
use Rattle.lists.specs.Base.{every}
use Rattle.tables.specs.Rows.{rows}
use Rattle.rules.specs.Acceptance.{consolidation_in}
use Rattle.records.specs.Layout.{consolidation_at}
use Rattle.acceptance.proofs.passes.consolidations_in.Given as goal

abbrev pub invariant-loop-i : goal.invariant-loop-i
invariant-loop-i l =
    every (consolidation_in l.n) (drop l.i (rows l.m (consolidation_at l.consolidations)))
    ≡ every (consolidation_in l.n) (rows l.m (consolidation_at l.consolidations))
