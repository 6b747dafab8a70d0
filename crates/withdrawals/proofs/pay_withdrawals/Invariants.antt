use Rattle.expected_withdrawals.specs.Expected.{handed_list}
use Rattle.withdrawals.specs.Laws.{Paying}
use Rattle.withdrawals.proofs.pay_withdrawals.Given as goal

abbrev pub invariant-loop-w : goal.invariant-loop-w
invariant-loop-w l = Paying l.registry (handed_list l.fn.list l.n) l.initial.validators l.validators l.w-index
