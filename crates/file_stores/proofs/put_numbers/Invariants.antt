use Rattle.std.proofs.Common.{◌≡◌}
use Rattle.file_format.specs.PutLaws.{put}
use Rattle.file_stores.specs.Laws.{first_numbers}
use Rattle.file_stores.proofs.put_numbers.Given as goal

abbrev pub invariant-loop-i : goal.invariant-loop-i
invariant-loop-i l = l.out ≡ put l.initial.out l.k (first_numbers l.from l.i)
