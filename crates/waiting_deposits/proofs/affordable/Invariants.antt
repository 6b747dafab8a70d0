use Rattle.std.proofs.Common.{◌≡◌, drop}
use Rattle.waiting_deposits.specs.Affords.{affords, after}
use Rattle.waiting_deposits.proofs.affordable.Given as goal

abbrev pub invariant-loop-count : goal.invariant-loop-count
invariant-loop-count l =
    after l.count (affords (drop l.count l.deposits) l.left) ≡ affords l.deposits l.initial.left
