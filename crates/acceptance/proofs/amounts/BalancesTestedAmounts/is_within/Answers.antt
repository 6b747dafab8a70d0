use Rattle.std.specs.Prelude.{[]}
use Rattle.acceptance.proofs.amounts.BalancesTestedAmounts.is_within.Goals as goal

pub returns : goal.returns
returns c = c.validator_within.ensures []
