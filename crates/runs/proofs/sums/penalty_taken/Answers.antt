use mathlib.Core.Path.{sym, ap, ◌∙◌}
use Prim.Native.Nat.{min}
use Rattle.calls_reader.specs.Plain.{kind_code}
use Rattle.runs.specs.Sums.{other_taken, penalty_beyond, penalty_within}
use Rattle.runs.proofs.sums.penalty_taken.Goals as goal

pub returns-in_default : goal.returns-in_default
returns-in_default c = λ ids ds ps cs. other_taken _ c.requires.kind_read c.in_default.not-Penalty _

pub returns-then-scalars-penalty : goal.returns-then-scalars-penalty
returns-then-scalars-penalty c =
    λ ids ds ps cs.
    penalty_beyond _ _ _ _ _ (c.amount-penalty.ensures.1 (sym c.requires.kind_read ∙ ap kind_code c.in-Penalty.is))
    c.if-scalars-penalty.true

pub returns-else-scalars-penalty : goal.returns-else-scalars-penalty
returns-else-scalars-penalty c =
    λ ids ds ps cs.
    penalty_within _ _ _ _ _ (c.amount-penalty.ensures.1 (sym c.requires.kind_read ∙ ap kind_code c.in-Penalty.is))
    c.if-scalars-penalty.false
    (c.min.ensures ∙ ap (min _) c.balance_at-balance.ensures)
