use mathlib.Core.Path.{◌∙◌}
use Rattle.primitives.specs.Settings.{settings_of}
use Rattle.records.specs.Layout.{validator_at}
use Rattle.expected_withdrawals.specs.Laws.{validator_listed, validator_passed}
use Rattle.expected_withdrawals.proofs.Walk.{swept_all, swept_full, sweeping_more}
use Rattle.expected_withdrawals.proofs.sweep_withdrawals.Goals as goal
use Rattle.expected_withdrawals.proofs.sweep_withdrawals.Goals.{then-amount-gt0, else-amount-gt0}

pub returns-then-most-e : goal.returns-then-most-e
returns-then-most-e c =
    let a = c.args in
    swept_full a.settings a.books.now.scalars a.books.now.identities.now a.books.now.validators.now a.listed
    c.loop-k.invariant c.if-most-e.true

pub loop-k-preserved : goal.loop-k-preserved
loop-k-preserved c =
    let a = c.args in
    let S = settings_of a.settings in
    let i = c.loop-k.i in
    let v = validator_at a.books.now.identities.now a.books.now.validators.now i in
    let epoch = a.books.now.scalars.epoch.0 in
    let first = a.books.now.scalars.next_withdrawal_index.0 in
    let amount = c.sweep_amount-amount.ensures in
    let more =
    sweeping_more a.settings a.books.now.scalars a.books.now.identities.now a.books.now.validators.now a.listed
    c.loop-k.invariant c.loop-k-test.true
    c.if-most-e.false c.index_after-i.ensures in
    elim c.if-amount-gt0.branch [
      | then-amount-gt0 w ↦ more
          (validator_listed S v epoch first i c.loop-k.e amount w.if-amount-gt0.true
          cc)
      | else-amount-gt0 w ↦ more
          (w.e-is ∙ validator_passed S v epoch first i c.loop-k.e amount w.if-amount-gt0.false)
    ]

pub returns : goal.returns
returns c =
    let a = c.args in
    swept_all a.settings a.books.now.scalars a.books.now.identities.now a.books.now.validators.now a.listed
    c.loop-k.invariant c.loop-k-test.false
