use borrow.Author.Tests.{eq-eqb, ne_eqb}
use Rattle.lists.specs.Base.{when◌then◌else◌}
use Rattle.helpers.proofs.lookups.owed_to.Goals as goal

pub returns-then-p-i : goal.returns-then-p-i
unfolding when◌then◌else◌
returns-then-p-i c = simp (eq-eqb _ _ c.if-p-i.true)

pub returns-else-p-i : goal.returns-else-p-i
unfolding when◌then◌else◌
returns-else-p-i c = simp (ne_eqb _ _ c.if-p-i.false)
