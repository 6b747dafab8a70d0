use Rattle.queue_room.proofs.Filling.{Filling}
use Rattle.queue_room.proofs.set_switchable_balances.Given as goal

abbrev pub invariant-loop-i : goal.invariant-loop-i
invariant-loop-i l = Filling l.books.identities.now l.books.validators.now l.balances l.i
