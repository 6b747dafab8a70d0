use Rattle.std.proofs.Common.{◌≡◌, ◌+◌}
use Rattle.file_format.specs.PutLaws.{put}
use Rattle.books_writer.specs.Lists.{first_records}
use Rattle.books_writer.proofs.counted.put_records.Given as goal

abbrev pub invariant-loop-i : goal.invariant-loop-i
invariant-loop-i g l =
    let R = g.R.FileRecord in
    l.out ≡ put l.initial.out (l.k + 1) (first_records R.format (R.decode l.table) l.i)
