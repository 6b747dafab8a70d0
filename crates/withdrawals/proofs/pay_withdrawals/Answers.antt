use mathlib.Core.Path.{◌≡◌}
use Prim.Native.Nat.{◌<◌}
use native.Mathlib.Omega.{arith}
use lib.ListN.{length, get_or, take}
use borrow.Author.Rules.{rules}
use borrow.Author.Tests.{ltb-true}
use Rattle.rule_laws.specs.Withdrawals.{withdrawal_in}
use Rattle.expected_withdrawals.specs.Expected.{plain_withdrawal}
use Rattle.expected_withdrawals.specs.Handed.{past}
use Rattle.withdrawals.specs.Laws.{paying_more, paid_all}
use Rattle.withdrawals.proofs.Fronts.{front_passes, front_at, front_end}
use Rattle.withdrawals.proofs.pay_withdrawals.Goals as goal

pub decrease_balance-requires : goal.decrease_balance-requires
decrease_balance-requires c =
    let a = c.args in
    let l : length a.list ≡ 16 = search rules in
    let inside = ltb-true _ _
    (front_passes a.list a.n (omega (arith, c.requires.held)) c.loop-w-test.true (withdrawal_in a.registry)
    c.requires.known) in
    omega (arith, inside, c.loop-w.invariant.size, c.requires.held)

pub loop-w-preserved : goal.loop-w-preserved
loop-w-preserved c =
    let a = c.args in
    let l : length a.list ≡ 16 = search rules in
    let w = plain_withdrawal (get_or (take a.n a.list) c.loop-w.w-index past) in
    let inside : w.validator_index < a.registry = ltb-true _ _
    (front_passes a.list a.n (omega (arith, c.requires.held)) c.loop-w-test.true (withdrawal_in a.registry)
    c.requires.known) in
    paying_more c.loop-w.invariant w
    (front_at a.list a.n (omega (arith, c.requires.held)) c.loop-w-test.true)
    inside (search rules) c.decrease_balance.ensures

pub returns : goal.returns
returns c =
    let a = c.args in
    let l : length a.list ≡ 16 = search rules in
    paid_all c.loop-w.invariant (front_end a.list a.n (omega (arith, c.requires.held)) c.loop-w-test.false)
