use Rattle.std.proofs.Common.{◌≡◌}
use Rattle.file_format.specs.PutLaws.{put}
use Rattle.file_stores.specs.Laws.{first_words}
use Rattle.file_stores.proofs.put_field.Given as goal

abbrev pub invariant-loop-i : goal.invariant-loop-i
invariant-loop-i l = l.out ≡ put l.initial.out l.k (first_words l.from l.i)
