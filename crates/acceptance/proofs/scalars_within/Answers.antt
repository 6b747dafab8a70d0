-- The code joins the definition's tests in its order, from the left.
use Rattle.acceptance.specs.Tests.{scalars_within}
use Rattle.acceptance.specs.Laws.{chained}
use Rattle.acceptance.proofs.scalars_within.Goals as goal

pub returns : goal.returns
unfolding scalars_within
returns c = chained _ _
