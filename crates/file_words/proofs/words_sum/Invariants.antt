-- `file_words::words_sum` meets its contract.
use Rattle.std.proofs.Common.{◌≡◌, take}
use Rattle.file_format.specs.Words.{words, wrapping_sum}
use Rattle.file_words.proofs.words_sum.Given as goal

abbrev pub invariant-loop-i : goal.invariant-loop-i
invariant-loop-i l = l.sum ≡ wrapping_sum (take l.i (words l.file))
