-- A whole file: the words of a format, the end word and nothing after, as bytes.
use Rattle.std.specs.Prelude.{Bool, ◌&&◌, List, ℕ, ◌-◌, ◌%◌, length, get_or, take, eqb}
use Rattle.std.proofs.Math.Option.{Option, some, none}
use Rattle.lists.specs.Base.{when◌then◌else◌}
use Rattle.rules.specs.Types.{Settings, Books}
use Rattle.rules.specs.Calls.{Operation}
use Rattle.file_format.specs.Words.{end_word, with_end, bytes, words}
use Rattle.file_format.specs.Fields.{Format}
use Rattle.file_format.specs.Books.{books_format}
use Rattle.file_format.specs.Calls.{calls_format}

-- `rest` is one word, the end word of the words before it
abbrev pub ends : (ws rest : List ℕ) → Bool
ends ws rest = eqb (length rest) 1 && eqb (get_or rest 0 0) (end_word (take (length ws - 1) ws))

module _ {A : Type 0} (F : Format A) where
  unfoldable pub write_file : A → List ℕ
  write_file a = bytes (with_end (F.write a))

  -- false: a broken file, answered 60
  unfoldable pub file_ok : List ℕ → Bool
  file_ok bs =
      let ws = words bs in
      eqb (length bs % 4) 0 && (F.ok ws && ends ws (F.rest ws))

  -- none: answered 60
  unfoldable pub read_file : List ℕ → Option A
  read_file bs =
      let read = some (F.value (words bs)) in
      when file_ok bs then read else none

-- ---- the two files

abbrev pub write_books : Settings → Books → List ℕ
write_books S b = write_file books_format (S, b)

abbrev pub read_books : List ℕ → Option (Settings × Books)
read_books = read_file books_format

abbrev pub write_calls : List Operation → List ℕ
write_calls = write_file calls_format

abbrev pub read_calls : List ℕ → Option (List Operation)
read_calls = read_file calls_format
