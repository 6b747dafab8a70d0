use Prim.Native.Nat.{◌*◌}
use Rattle.tables.specs.Filled.{Filled}
use Rattle.file_format.specs.Words.{words}
use Rattle.file_format.specs.Places.{number_at}
use Rattle.file_records.proofs.numbers_at.Given as goal

abbrev pub invariant-loop-i : goal.invariant-loop-i
invariant-loop-i g l = Filled 0 (λ q. number_at (words l.rest) (q * 3)) l.out g.row.N l.i
