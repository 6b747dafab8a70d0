use mathlib.Core.Path.{◌≡◌}
use Prim.Native.Nat.{◌+◌}
use Rattle.records.specs.Layout.{validator_at}
use Rattle.file_format.specs.Books.{validator}
use Rattle.file_format.specs.PutLaws.{put}
use Rattle.books_writer.specs.Lists.{first_records}
use Rattle.books_writer.proofs.counted.put_validators.Given as goal

abbrev pub invariant-loop-i : goal.invariant-loop-i
invariant-loop-i l =
    l.out ≡ put l.initial.out (l.k + 1) (first_records validator (validator_at l.identities l.validators) l.i)
