-- `file_bytes::put_field` meets its contract.
use Rattle.std.proofs.Common.{◌≡◌, ◌*◌, length}
use Rattle.std.proofs.Math.Seq.{paste}
use Rattle.file_format.specs.Words.{words}
use Rattle.file_format.specs.Fields.{field}
use Rattle.file_bytes.proofs.put_field.Given as goal

abbrev pub invariant-loop-i : goal.invariant-loop-i
invariant-loop-i l =
    l.bytes ≡ paste l.initial.bytes 0 ((field (length l.initial.bytes)).value (words l.rest)) (l.i * 3)
