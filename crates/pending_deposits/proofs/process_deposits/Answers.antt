use native.Mathlib.Omega.{arith}
use Rattle.pending_deposits.proofs.DepositStep.{paid_reached, paid_known, paid_small, processed}
use Rattle.pending_deposits.proofs.process_deposits.Goals as goal

pub credit_deposits-requires : goal.credit_deposits-requires
credit_deposits-requires c =
    let a = c.args in
    let r = c.requires in
    let is = c.affordable_deposits-affordable.ensures in
    record {
      held = (r.held.0, omega (arith, paid_reached a.available.0 a.m _ _ a.deposits.now is, r.held));
      known = paid_known a.available.0 a.m _ _ a.deposits.now is a.n r.known;
      sums = λ ids. paid_small a.available.0 a.m _ _ a.deposits.now is _ (r.sums ids);
    }

pub returns : goal.returns
returns c =
    let a = c.args in
    processed a.available.0 a.m _ _ a.deposits.now
    c.affordable_deposits-affordable.ensures
    c.credit_deposits.ensures
