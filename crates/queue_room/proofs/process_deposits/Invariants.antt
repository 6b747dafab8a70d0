use Rattle.queue_room.specs.Ready.{lent_validators, lent_deposits}
use Rattle.queue_room.proofs.Crediting.{Crediting}
use Rattle.queue_room.proofs.process_deposits.Given as goal

abbrev pub invariant-loop-k : goal.invariant-loop-k
invariant-loop-k l =
    Crediting l.available.0 l.books.scalars.validators l.books.identities.now (lent_validators l.books)
    (lent_deposits l.books) l.balances l.processed_amount l.k
