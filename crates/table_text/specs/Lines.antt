-- What a run of calls leaves for each call, and how a lent buffer holds it: three numbers a line.
use Rattle.std.specs.Prelude.{List, [], ◌∷◌, ◌++◌, ℕ, ◌+◌, ◌*◌, get_or}
use Rattle.tables.specs.Rows.{rows}

-- the call's code, its answer, and balances plus waiting deposits after it
pub record Line : Type 0 where
  pub code : ℕ
  pub answer : ℕ
  pub total : ℕ

abbrev pub line : (code answer total : ℕ) → Line
line code answer total = record { code = code; answer = answer; total = total }

abbrev pub line_words : Line → List ℕ
line_words l = l.code ∷ l.answer ∷ l.total ∷ []

-- the words of all lines, one line behind another
abbrev pub lines_words : List Line → List ℕ
lines_words [] = []
lines_words (l ∷ ls) = line_words l ++ lines_words ls

-- ---- a buffer read as lines

abbrev pub line_at : List ℕ → ℕ → Line
line_at ws i = line (get_or ws (3 * i) 0) (get_or ws (3 * i + 1) 0) (get_or ws (3 * i + 2) 0)

-- the first n lines
abbrev pub lines_of : List ℕ → ℕ → List Line
lines_of ws n = rows n (line_at ws)
