-- `file_words::numbers_ok` meets its contract.
use Rattle.std.proofs.Common.{◌≡◌}
use Rattle.file_format.specs.Words.{words}
use Rattle.file_format.specs.Fields.{number, many}
use Rattle.file_words.proofs.numbers_ok.Given as goal

abbrev pub invariant-loop-i : goal.invariant-loop-i
invariant-loop-i l = l.good ≡ (many number l.i).ok (words l.rest)
