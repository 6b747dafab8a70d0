-- The scope text's example as bytes, computed by the checker.
use Rattle.std.specs.Prelude.{◌≡◌, refl, [], ◌∷◌, ◌++◌}
use Rattle.table_text.specs.Lines.{line}
use Rattle.table_text.specs.Text.{ascii, decimal, field, text_line, text_lines, table_text, refused_text}

example : table_text (line 7 0 41_000_000_000 ∷ line 4 0 41_000_000_000 ∷ line 4 12 41_000_000_000 ∷ [])
    ≡ ascii "call code answer total\n"
    ++ ascii "0001 07 00 00000000041000000000\n"
    ++ ascii "0002 04 00 00000000041000000000\n"
    ++ ascii "0003 04 12 00000000041000000000\n"
unfolding decimal field text_line text_lines table_text
example = refl

-- without calls the header stands alone
no_calls : table_text [] ≡ ascii "call code answer total\n"
unfolding text_lines table_text
no_calls = refl

broken_file : refused_text 60 ≡ ascii "refused 60\n"
unfolding decimal field refused_text
broken_file = refl

unsound_settings : refused_text 1 ≡ ascii "refused 01\n"
unfolding decimal field refused_text
unsound_settings = refl

-- the bytes themselves, as numbers
bytes : refused_text 60 ≡ 114 ∷ 101 ∷ 102 ∷ 117 ∷ 115 ∷ 101 ∷ 100 ∷ 32 ∷ 54 ∷ 48 ∷ 10 ∷ []
unfolding decimal field refused_text
bytes = refl

-- the widest line: the largest position and total
widest : text_line 9999 (line 8 61 18446744073709551615) ≡ ascii "9999 08 61 18446744073709551615\n"
unfolding decimal field text_line
widest = refl
