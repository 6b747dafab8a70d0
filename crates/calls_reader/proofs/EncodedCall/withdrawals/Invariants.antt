-- `calls_reader::EncodedCall::withdrawals` meets its contract.
use Rattle.std.proofs.Common.{◌≡◌, ◌≤◌}
use Rattle.file_format.specs.Words.{words}
use Rattle.calls_reader.specs.Fields.{listed_there}
use Rattle.calls_reader.proofs.EncodedCall.withdrawals.Given as goal

abbrev pub invariant-loop-i : goal.invariant-loop-i
invariant-loop-i l = (l.count ≤ 16) × (l.list ≡ listed_there (words l.self.rest.now) l.i)
