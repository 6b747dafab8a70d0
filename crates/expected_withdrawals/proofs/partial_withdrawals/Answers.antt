use mathlib.Core.Path.{sym, ap, ◌∙◌}
use Prim.Native.Nat.{◌<◌}
use Rattle.primitives.specs.Settings.{settings_of}
use Rattle.records.specs.Layout.{validator_at}
use Rattle.records.specs.Plain.{plain_partial}
use Rattle.expected_withdrawals.specs.Laws.{payable_room, partial_listed, partial_passed}
use Rattle.expected_withdrawals.proofs.Walk.{walked_full, walked_end, walked_stop}
use Rattle.expected_withdrawals.proofs.Walk.{walking_more}
use Rattle.expected_withdrawals.proofs.partial_withdrawals.Goals as goal
use Rattle.expected_withdrawals.proofs.partial_withdrawals.Goals.{then-is_partial_payable, else-is_partial_payable}

pub returns-then-most-e : goal.returns-then-most-e
returns-then-most-e c =
    let a = c.args in
    walked_full a.settings a.books.now.scalars a.books.now.identities.now a.books.now.validators.now
    a.books.now.partials.now
    c.loop-k.invariant c.if-most-e.true

pub returns-then-scalars-p : goal.returns-then-scalars-p
returns-then-scalars-p c =
    let a = c.args in
    walked_stop a.settings a.books.now.scalars a.books.now.identities.now a.books.now.validators.now
    a.books.now.partials.now
    c.loop-k.invariant c.loop-k-test.true
    c.if-most-e.false c.entry_at-p.ensures c.if-scalars-p.true

pub partial_amount-amount-requires-clause-above_least : goal.partial_amount-amount-requires-clause-above_least
partial_amount-amount-requires-clause-above_least c =
    let a = c.args in
    let v = validator_at a.books.now.identities.now a.books.now.validators.now c.entry_at-p.result.index.0 in
    payable_room (settings_of a.settings) v
    (sym (c.is_partial_payable.ensures a.books.now.identities.now) ∙ c.if-is_partial_payable.true)

pub loop-k-preserved : goal.loop-k-preserved
loop-k-preserved c =
    let inside : c.entry_at-p.result.index.0 < c.args.books.now.scalars.validators = let k = c.loop-k.k in
    rw (ap (λ p. p.index) c.entry_at-p.ensures) (c.requires.inside k c.loop-k-test.true) in
    let a = c.args in
    let p = plain_partial c.entry_at-p.result in
    let S = settings_of a.settings in
    let v = validator_at a.books.now.identities.now a.books.now.validators.now p.index in
    let first = a.books.now.scalars.next_withdrawal_index.0 in
    let payable = c.is_partial_payable.ensures a.books.now.identities.now in
    let more =
    walking_more a.settings a.books.now.scalars a.books.now.identities.now a.books.now.validators.now
    a.books.now.partials.now
    c.loop-k.invariant c.loop-k-test.true
    c.if-most-e.false c.entry_at-p.ensures
    c.if-scalars-p.false inside in
    elim c.if-is_partial_payable.branch [
      | then-is_partial_payable w ↦ more
          (partial_listed S v first p c.loop-k.e (sym payable ∙ w.if-is_partial_payable.true)
          (w.partial_amount-amount.ensures a.books.now.identities.now)
          cc)
      | else-is_partial_payable w ↦ more
          (w.e-is ∙ partial_passed S v first p c.loop-k.e (sym payable ∙ w.if-is_partial_payable.false))
    ]

pub returns : goal.returns
returns c =
    let a = c.args in
    walked_end a.settings a.books.now.scalars a.books.now.identities.now a.books.now.validators.now
    a.books.now.partials.now
    c.loop-k.invariant c.loop-k-test.false
