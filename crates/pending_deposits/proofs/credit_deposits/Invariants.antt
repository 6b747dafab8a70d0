use Rattle.pending_deposits.proofs.DepositStep.{Crediting}
use Rattle.pending_deposits.proofs.credit_deposits.Given as goal

abbrev pub invariant-loop-i : goal.invariant-loop-i
invariant-loop-i l = Crediting l.n l.count l.deposits l.initial.validators l.validators l.i
