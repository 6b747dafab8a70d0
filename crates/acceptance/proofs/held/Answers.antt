-- The two sums, as the definition adds them; the other tables do not matter.
use Rattle.std.proofs.Common.{arith}
use Rattle.records.specs.Books.{tables}
use Rattle.acceptance.specs.Held.{held_form}
use Rattle.acceptance.proofs.held.Goals as goal

pub returns : goal.returns
returns c ids ps cs =
    let a = c.args in
    omega (arith, held_form a.scalars (tables ids a.validators.now a.deposits.now ps cs))
