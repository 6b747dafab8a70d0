use mathlib.Core.Path.{sym}
use borrow.Author.Tests.{eq-eqb, ne_eqb}
use Rattle.lists.specs.Laws.{if_true, if_false}
use Rattle.queue_room.proofs.switchable_amount.Goals as goal

pub returns-then-prefix-eq1 : goal.returns-then-prefix-eq1
returns-then-prefix-eq1 c = sym (if_true _ _ _ (eq-eqb _ _ c.if-prefix-eq1.true))

pub returns-else-prefix-eq1 : goal.returns-else-prefix-eq1
returns-else-prefix-eq1 c = sym (if_false _ _ _ (ne_eqb _ _ c.if-prefix-eq1.false))
