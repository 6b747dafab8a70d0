-- `calls_reader::calls_end_ok` meets its contract.
use Rattle.std.proofs.Common.{◌≡◌, ◌-◌, drop}
use Rattle.file_format.specs.Words.{words}
use Rattle.calls_reader.specs.Laws.{calls_end_ok}
use Rattle.calls_reader.proofs.calls_end_ok.Given as goal

abbrev pub invariant-loop-i : goal.invariant-loop-i
invariant-loop-i l =
    calls_end_ok (words l.file) (l.n - l._i) (words l.rest) ≡ calls_end_ok (words l.file) l.n (drop 2 (words l.file))
