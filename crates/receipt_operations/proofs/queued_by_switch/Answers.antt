use mathlib.Core.Path.{refl, ◌∙◌}
use Rattle.call_answers.specs.Tests.{fails, passes}
use Rattle.receipt_operations.proofs.queued_by_switch.Goals as goal

pub returns-then-not-switch : goal.returns-then-not-switch
returns-then-not-switch c = passes _ _ c.if-not-switch.true refl

pub returns : goal.returns
returns c = c.excess_entry_count.ensures ∙ fails _ _ c.if-not-switch.false
