-- `file_words::triples_ok` meets its contract.
use Rattle.std.proofs.Common.{◌≡◌, ◌*◌}
use Rattle.file_format.specs.Words.{words}
use Rattle.file_format.specs.Fields.{field_ok}
use Rattle.file_words.proofs.triples_ok.Given as goal

abbrev pub invariant-loop-i : goal.invariant-loop-i
invariant-loop-i l = l.good ≡ field_ok (l.i * 3) (words l.rest)
