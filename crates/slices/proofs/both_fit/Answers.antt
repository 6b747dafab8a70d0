use Rattle.std.proofs.Common.{arith}
use Rattle.std.proofs.lemmas.Bool.Decides.{nat_tests}
use Rattle.lists.specs.Base.{all}
use Rattle.slices.proofs.both_fit.Goals as goal

pub returns-then-first : goal.returns-then-first
unfolding all
returns-then-first c = grind (arith, nat_tests)

pub returns-else-first : goal.returns-else-first
unfolding all
returns-else-first c = grind (arith, nat_tests)
