-- The outcome of each call of a list as a line: its code in a calls file, its answer, and the sum that the books hold
-- after it; and the lines as numbers, three of each.
use Rattle.std.specs.Prelude.{◌≡◌, refl, List, [], ◌∷◌, ℕ, suc, ◌+◌, ◌*◌, length, set}
use Rattle.std.proofs.Common.{ap, arith}
use Rattle.rules.specs.Types.{Settings, Books}
use Rattle.rules.specs.Acceptance.{held}
use Rattle.rules.specs.Calls.{Call, answer, after}
use Rattle.file_format.specs.Calls.{written}
use Rattle.table_text.specs.Lines.{Line, lines_words}

abbrev pub line : Settings → Books → Call → Line
line S b c = record { code = (written c.operation).code; answer = answer S b c; total = held (after S b c) }

-- each call on the books that the last one left
abbrev pub lines : Settings → Books → List Call → List Line
lines S b [] = []
lines S b (c ∷ cs) = line S b c ∷ lines S (after S b c) cs

-- line i of the results
abbrev pub with_line : (results : List ℕ) (i code answer total : ℕ) → List ℕ
with_line results i code answer total =
    set (set (set results (3 * i) code) (3 * i + 1) answer) (3 * i + 2) total

-- ---- their laws

pub lines_length : (S : Settings) (b : Books) (cs : List Call) → length (lines S b cs) ≡ length cs
lines_length S b [] = refl
lines_length S b (c ∷ cs) = ap suc (lines_length S (after S b c) cs)

pub lines_words_length : (ls : List Line) → length (lines_words ls) ≡ 3 * length ls
lines_words_length [] = refl
lines_words_length (l ∷ ls) = omega (arith, lines_words_length ls)
