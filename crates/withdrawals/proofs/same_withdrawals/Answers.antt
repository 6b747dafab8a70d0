use mathlib.Core.Path.{◌≡◌, sym, ap, ◌∙◌}
use native.Mathlib.Omega.{arith}
use lib.ListN.{length}
use borrow.Author.Rules.{rules}
use borrow.Author.Tests.{ne_eqb}
use Rattle.rules.specs.BlockProcessing.{same_withdrawals}
use Rattle.expected_withdrawals.specs.Expected.{handed_list}
use Rattle.expected_withdrawals.specs.Handed.{length_handed}
use Rattle.withdrawals.specs.Laws.{differ}
use Rattle.withdrawals.proofs.Fronts.{fields_compared, handed_compared}
use Rattle.withdrawals.proofs.same_withdrawals.Goals as goal

pub returns-then-n-expected : goal.returns-then-n-expected
returns-then-n-expected c =
    let a = c.args in
    let hl : length a.list ≡ 16 = search rules in
    let hm : length a.expected.list ≡ 16 = search rules in
    c.eq.ensures
    ∙ handed_compared _ fields_compared a.list a.expected.list a.n (omega arith) (omega arith)
    ∙ ap (λ m. same_withdrawals (handed_list a.list a.n) (handed_list a.expected.list m)) c.if-n-expected.true

pub returns-else-n-expected : goal.returns-else-n-expected
returns-else-n-expected c =
    let a = c.args in
    ne_eqb _ _ c.if-n-expected.false
    ∙ differ (handed_list a.list a.n) (handed_list a.expected.list a.expected.count)
    (λ e. c.if-n-expected.false
    (sym (length_handed a.list a.n) ∙ e ∙ length_handed a.expected.list a.expected.count))
