use mathlib.Core.Path.{◌≡◌}
use Rattle.file_format.specs.PutLaws.{put}
use Rattle.calls_writer.specs.Listed.{first_listed}
use Rattle.calls_writer.proofs.put_list.Given as goal

abbrev pub invariant-loop-i : goal.invariant-loop-i
invariant-loop-i l = l.out ≡ put l.initial.out l.k (first_listed l.list l.i)
