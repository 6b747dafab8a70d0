use native.Mathlib.Omega.{arith}
use Rattle.pending_deposits.proofs.DepositStep.{crediting_more, crediting_end}
use Rattle.pending_deposits.proofs.DepositStep.{index_known, balance_small}
use Rattle.pending_deposits.proofs.credit_deposits.Goals as goal

pub increase_balance-requires : goal.increase_balance-requires
increase_balance-requires c =
    let l = c.loop-i in
    let known = c.requires.known in
    let read = c.entry_at-deposit.result in
    let index = index_known l.invariant c.loop-i-test.true read c.entry_at-deposit.ensures known in
    let balance = balance_small l.invariant c.loop-i-test.true read c.entry_at-deposit.ensures known in
    record {
      i_bound = omega (arith, index, l.invariant.size, c.requires.held);
      delta_bound = omega (arith, balance);
    }

pub loop-i-preserved : goal.loop-i-preserved
loop-i-preserved c =
    let credited = c.increase_balance in
    crediting_more c.loop-i.invariant c.loop-i-test.true c.entry_at-deposit.result
    c.entry_at-deposit.ensures c.requires.known credited.new.validators
    credited.ensures credited.auto.validators

pub returns : goal.returns
returns c = crediting_end c.loop-i.invariant (omega arith)
