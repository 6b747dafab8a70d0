use mathlib.Core.Path.{sym, ◌∙◌}
use native.Mathlib.Omega.{arith}
use Rattle.primitives.specs.Settings.{settings_of}
use Rattle.records.specs.Layout.{validator_at}
use Rattle.expected_withdrawals.specs.Laws.{no_amount, partial_room}
use Rattle.expected_withdrawals.proofs.sweep_amount.Goals as goal

pub returns-then-not-may_withdraw : goal.returns-then-not-may_withdraw
returns-then-not-may_withdraw c =
    let a = c.args in
    let v = validator_at a.books.now.identities.now a.books.now.validators.now a.i.0 in
    no_amount (settings_of a.settings) a.books.now.scalars.epoch.0 v
    (sym (c.may_withdraw.ensures a.books.now.identities.now) ∙ c.if-not-may_withdraw.true)

pub overflow_sub-result : goal.overflow_sub-result
overflow_sub-result c =
    let a = c.args in
    let partially =
    sym c.is_partially_withdrawable_validator.ensures ∙ c.if-not-is_partially_withdrawable_validator.false in
    omega (
      arith,
      partial_room (settings_of a.settings) a.books.now.scalars.epoch.0 _ partially,
      c.get_validator_max_effective_balance-max.ensures,
    )
