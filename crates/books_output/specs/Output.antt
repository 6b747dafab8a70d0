-- What the program `books` prints, from the bytes of opening.w and calls.w.
use Rattle.std.specs.Prelude.{List, ℕ}
use Rattle.table_text.specs.Text.{table_text, refused_text}
use Rattle.runs.specs.Lines.{lines}
use Rattle.books_output.specs.Files.{Files, refused, accepted, files}

-- one line a call, or the number of the refusal alone
abbrev pub text : Files → List ℕ
text (refused n) = refused_text n
text (accepted S b cs) = table_text (lines S b cs)

unfoldable pub output : (opening calls : List ℕ) → List ℕ
output opening calls = text (files opening calls)

-- the most bytes that are printed: a header of 23, and 9,999 lines of 32
abbrev pub most_printed : ℕ
most_printed = 319_991
