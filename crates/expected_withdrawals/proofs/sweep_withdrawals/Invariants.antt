use Rattle.expected_withdrawals.proofs.Walk.{Sweeping}
use Rattle.expected_withdrawals.proofs.sweep_withdrawals.Given as goal

abbrev pub invariant-loop-k : goal.invariant-loop-k
invariant-loop-k l =
    Sweeping l.settings l.books.scalars l.books.identities.now l.books.validators.now l.initial.e l.bound l.e l.i l._k
