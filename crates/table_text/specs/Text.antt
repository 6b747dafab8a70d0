-- What the program `books` prints, as bytes.
use Rattle.std.specs.Prelude.{◌≡◌, List, [], ◌∷◌, ◌++◌, ℕ, zero, suc, ◌+◌, ◌/◌, ◌%◌, length, drop}
use Prim.Native.Char.{code}
use Prim.Native.String.{String, [] as no_text, ◌∷◌ as ◌then◌}
use Rattle.table_text.specs.Lines.{Line}

-- the characters of a text as bytes
abbrev pub ascii : String → List ℕ
ascii no_text = []
ascii (c then s) = code c ∷ ascii s

-- the last digits of n in decimal, as many as the width: n itself, filled with zeros, where it has no more
unfoldable pub decimal : (width n : ℕ) → List ℕ
decimal zero n = []
decimal (suc width) n = decimal width (n / 10) ++ ((48 + n % 10) ∷ [])

abbrev pub space : ℕ
space = 32

abbrev pub newline : ℕ
newline = 10

-- a number, and the byte behind it
unfoldable pub field : (width n behind : ℕ) → List ℕ
field width n behind = decimal width n ++ (behind ∷ [])

-- position, code, answer, total
unfoldable pub text_line : ℕ → Line → List ℕ
text_line position l =
    field 4 position space ++ field 2 l.code space ++ field 2 l.answer space ++ field 20 l.total newline

-- one line a call, with positions from the first on
unfoldable pub text_lines : ℕ → List Line → List ℕ
text_lines first [] = []
text_lines first (l ∷ ls) = text_line first l ++ text_lines (first + 1) ls

unfoldable pub table_text : List Line → List ℕ
table_text ls = ascii "call code answer total\n" ++ text_lines 1 ls

unfoldable pub refused_text : ℕ → List ℕ
refused_text n = ascii "refused " ++ field 2 n newline

-- a text put at the start of a lent buffer: its length is answered, and behind it the buffer holds what it held
pub record Printed (text before after : List ℕ) (r : ℕ) : Type 0 where
  pub size : r ≡ length text
  pub bytes : after ≡ text ++ drop (length text) before
