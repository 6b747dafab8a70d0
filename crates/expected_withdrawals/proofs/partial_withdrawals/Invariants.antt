use Rattle.expected_withdrawals.proofs.Walk.{Walking}
use Rattle.expected_withdrawals.proofs.partial_withdrawals.Given as goal

abbrev pub invariant-loop-k : goal.invariant-loop-k
invariant-loop-k l =
    Walking l.settings l.books.scalars l.books.identities.now l.books.validators.now l.books.partials.now l.e l.k
