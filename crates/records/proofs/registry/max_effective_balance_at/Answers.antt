use mathlib.Core.Path.{sym, ◌∙◌}
use borrow.Author.Tests.{eq-eqb, ne_eqb}
use Rattle.lists.specs.Laws.{if_true, if_false}
use Rattle.rules.specs.Helpers.{prefix}
use Rattle.records.specs.Layout.{withdrawal_credentials_at}
use Rattle.records.proofs.registry.max_effective_balance_at.Goals as goal

pub returns-then-prefix_at-eq2 : goal.returns-then-prefix_at-eq2
returns-then-prefix_at-eq2 c ws =
    let byte = prefix (withdrawal_credentials_at c.args.identities.now c.args.i.0) in
    sym (if_true _ _ _ (eq-eqb (byte) 2
    (sym c.prefix_at.ensures ∙ c.if-prefix_at-eq2.true)))

pub returns : goal.returns
returns c ws =
    let byte = prefix (withdrawal_credentials_at c.args.identities.now c.args.i.0) in
    sym (if_false _ _ _ (ne_eqb (byte) 2
    (λ e. c.if-prefix_at-eq2.false (c.prefix_at.ensures ∙ e))))
