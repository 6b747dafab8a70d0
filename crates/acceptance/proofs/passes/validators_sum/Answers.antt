use Rattle.std.proofs.Common.{ap, ◌∙◌}
use Rattle.acceptance.specs.Tests.{bounded}
use Rattle.acceptance.specs.Amounts.{balances_ext}
use Rattle.acceptance.proofs.passes.validators_sum.Goals as goal

pub returns : goal.returns
returns c ids =
    let a = c.args in
    c.tested_sum.ensures ∙ ap bounded (balances_ext a.most.0 a.validators.now a.n ids)
