use mathlib.Core.Path.{refl}
use Rattle.expected_withdrawals.specs.Expected.{zeros, padded, sixteen}
use Rattle.expected_withdrawals.proofs.ExpectedWithdrawals.none.Goals as goal

pub returns : goal.returns
unfolding zeros padded sixteen
returns c = refl
