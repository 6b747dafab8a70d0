use mathlib.Core.Path.{◌≡◌}
use Prim.Native.Nat.{◌<◌, ◌≤◌}
use native.Mathlib.Nat.{add-zero}
use native.Mathlib.Omega.{arith}
use Rattle.primitives.specs.Settings.{settings_of}
use Rattle.records.specs.Layout.{balance_at}
use Rattle.compounding.specs.Laws.{entries_low, entries_high}
use Rattle.compounding.proofs.Switch.{not_queued, queued}
use Rattle.compounding.proofs.queue_excess_active_balance.Goals as goal

pub returns-then-balance-least : goal.returns-then-balance-least
returns-then-balance-least c =
    let a = c.args in
    let S = settings_of a.settings in
    let balance = balance_at a.validators.now a.i.0 in
    let low : balance ≤ S.min_activation_balance = omega arith in record {
      by_index = not_queued S a.i.0 a.scalars a.validators.now a.deposits.now
          c.requires.i_lt_validators.0 low;
      value = rw (entries_low S.min_activation_balance balance low, add-zero a.scalars.deposits);
    }

pub push-requires : goal.push-requires
push-requires c =
    let a =
    c.args in
    let balance = balance_at a.validators.now a.i.0 in
    omega (arith, entries_high (settings_of a.settings).min_activation_balance balance (omega arith))

pub returns : goal.returns
returns c =
    let a =
    c.args in
    let S = settings_of a.settings in
    let balance = balance_at a.validators.now a.i.0 in
    let read : c.balance_at-balance.result.0 ≡ balance = c.balance_at-balance.ensures in
    let high : S.min_activation_balance < balance =
    omega (
      arith,
      read,
      c.if-balance-least.false,
    ) in
    record {
      by_index = queued S a.i.0 a.scalars a.validators.now a.deposits.now
          c.requires.i_lt_validators.0 high _ _
          c.set_balance.ensures
          (rw read at c.push.ensures);
      value = rw (entries_high S.min_activation_balance balance high);
    }
