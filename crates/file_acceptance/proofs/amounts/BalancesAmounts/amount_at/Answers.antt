use mathlib.Core.Path.{sym, ◌∙◌}
use native.Mathlib.Omega.{arith}
use Rattle.file_format.proofs.PlacesLaws.{good_validator, validator_at}
use Rattle.file_acceptance.proofs.amounts.BalancesAmounts.amount_at.Goals as goal

pub number_at-requires : goal.number_at-requires
number_at-requires c = rw c.behind.ensures ((good_validator _ c.requires).numbers 5 (omega arith))

pub returns : goal.returns
returns c = (
  sym c.validator_within.ensures ∙ c.if-not-validator_within.false,
  rw (validator_at, c.number_at.ensures, c.behind.ensures),
)
