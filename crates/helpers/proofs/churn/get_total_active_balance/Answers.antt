use mathlib.Core.List.{[]}
use native.Mathlib.Omega.{arith}
use Rattle.tables.specs.Totals.{total_step, total_end}
use Rattle.rules.specs.Helpers.{active_effective_balance, get_total_active_balance}
use Rattle.records.specs.Layout.{validator_at}
use Rattle.records.specs.Books.{books_of}
use Rattle.helpers.specs.Ready.{active_small}
use Rattle.helpers.proofs.churn.get_total_active_balance.Goals as goal

pub overflow_add-sum : goal.overflow_add-sum
overflow_add-sum c =
    let a = c.args in
    let l = c.loop-i in
    omega (
      arith,
      l.invariant [],
      c.active_effective_balance_at-active.ensures [],
      total_step (active_effective_balance a.scalars.epoch.0) a.scalars.validators
          (validator_at [] a.validators.now) l.i (omega arith),
      active_small c.requires a.scalars.epoch.0 [],
    )

pub loop-i-preserved : goal.loop-i-preserved
loop-i-preserved c =
    let a = c.args in
    let l = c.loop-i in
    λ ids.
    omega (
      arith,
      l.invariant ids,
      c.active_effective_balance_at-active.ensures ids,
      total_step (active_effective_balance a.scalars.epoch.0) a.scalars.validators
          (validator_at ids a.validators.now) l.i (omega arith),
    )

pub returns : goal.returns
unfolding get_total_active_balance books_of
returns c =
    λ ids ds ps cs.
    let a = c.args in
    let l = c.loop-i in
    omega (
      arith,
      c.max.ensures,
      l.invariant ids,
      total_end (active_effective_balance a.scalars.epoch.0) a.scalars.validators
          (validator_at ids a.validators.now) l.i (omega arith),
    )
