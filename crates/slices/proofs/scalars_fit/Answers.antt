use mathlib.Core.Path.{sym}
use Rattle.lists.specs.Base.{all}
use Rattle.lists.specs.Laws.{and_true}
use Rattle.slices.proofs.scalars_fit.Goals as goal

pub returns : goal.returns
unfolding all
returns c = sym (and_true _)
