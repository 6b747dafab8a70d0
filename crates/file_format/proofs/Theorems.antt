-- What holds of the two files. A list of numbers below 256 is a list of bytes; `none` is the answer 60.
use Rattle.std.specs.Prelude.{◌≡◌, true, List, ℕ}
use Rattle.std.proofs.Math.Option.{some, none}
use Rattle.lists.specs.Base.{every}
use Rattle.rules.specs.Types.{Settings, Books}
use Rattle.rules.specs.Acceptance.{sound_settings, sound_books}
use Rattle.rules.specs.Calls.{Operation}
use Rattle.file_format.specs.Words.{is_byte}
use Rattle.file_format.specs.Books.{books_writable, sized}
use Rattle.file_format.specs.Calls.{calls_writable}
use Rattle.file_format.specs.File.{write_books, read_books, write_calls, read_calls}
use Rattle.file_format.proofs.BooksLaws.{books_format_lawful}
use Rattle.file_format.proofs.CallsLaws.{calls_format_lawful}
use Rattle.file_format.proofs.AcceptedLaws as accepted
use Rattle.file_format.proofs.FileLaws as file

-- ---- the books file

-- accepted settings and books with keys of 48 bytes, credentials of 32 and a receipt start of 64 bits can be written
pub accepted_writable : (S : Settings) (b : Books) → sound_settings S ≡ true → sound_books S b ≡ true → sized b ≡ true
    → books_writable S b ≡ true
accepted_writable = accepted.accepted_writable

-- what is written is a list of bytes
pub books_bytes : (S : Settings) (b : Books) → books_writable S b ≡ true → every is_byte (write_books S b) ≡ true
books_bytes S b e = file.written_bytes books_format_lawful (S, b) e

-- what is written reads back to the same settings and books
pub books_read_written : (S : Settings) (b : Books) → books_writable S b ≡ true
    → read_books (write_books S b) ≡ some (S, b)
books_read_written S b e = file.read_written books_format_lawful (S, b) e

pub accepted_read_written : (S : Settings) (b : Books) → sound_settings S ≡ true → sound_books S b ≡ true
    → sized b ≡ true → read_books (write_books S b) ≡ some (S, b)
accepted_read_written S b p q e = books_read_written S b (accepted_writable S b p q e)

-- two files that read to the same settings and books are the same file
pub same_books_file : (bs cs : List ℕ) (S : Settings) (b : Books) → every is_byte bs ≡ true → every is_byte cs ≡ true
    → read_books bs ≡ some (S, b) → read_books cs ≡ some (S, b) → bs ≡ cs
same_books_file bs cs S b p q r s = file.same_file books_format_lawful bs cs (S, b) p q r s

-- what is read can be written, and is the file that is written of it
pub books_only_written : (bs : List ℕ) (S : Settings) (b : Books) → every is_byte bs ≡ true
    → read_books bs ≡ some (S, b) → (books_writable S b ≡ true) × (bs ≡ write_books S b)
books_only_written bs S b h e = file.read_only_written books_format_lawful bs (S, b) h e

-- refused are the lists of bytes that no settings and books write, and only those
pub books_refused_unwritten : (bs : List ℕ) → read_books bs ≡ none
    → (S : Settings) (b : Books) → books_writable S b ≡ true → write_books S b ≡ bs → ⊥
books_refused_unwritten bs r S b e w = file.refused_unwritten books_format_lawful bs r (S, b) e w

pub books_unwritten_refused : (bs : List ℕ) → every is_byte bs ≡ true
    → ((S : Settings) (b : Books) → books_writable S b ≡ true → write_books S b ≡ bs → ⊥) → read_books bs ≡ none
books_unwritten_refused bs h n =
    file.unwritten_refused books_format_lawful bs h (λ p e w. n p.0 p.1 e w)

-- ---- the calls file

pub calls_bytes : (os : List Operation) → calls_writable os ≡ true → every is_byte (write_calls os) ≡ true
calls_bytes = file.written_bytes calls_format_lawful

pub calls_read_written : (os : List Operation) → calls_writable os ≡ true → read_calls (write_calls os) ≡ some os
calls_read_written = file.read_written calls_format_lawful

pub same_calls_file : (bs cs : List ℕ) (os : List Operation) → every is_byte bs ≡ true → every is_byte cs ≡ true
    → read_calls bs ≡ some os → read_calls cs ≡ some os → bs ≡ cs
same_calls_file = file.same_file calls_format_lawful

pub calls_only_written : (bs : List ℕ) (os : List Operation) → every is_byte bs ≡ true → read_calls bs ≡ some os
    → (calls_writable os ≡ true) × (bs ≡ write_calls os)
calls_only_written = file.read_only_written calls_format_lawful

pub calls_refused_unwritten : (bs : List ℕ) → read_calls bs ≡ none
    → (os : List Operation) → calls_writable os ≡ true → write_calls os ≡ bs → ⊥
calls_refused_unwritten = file.refused_unwritten calls_format_lawful

pub calls_unwritten_refused : (bs : List ℕ) → every is_byte bs ≡ true
    → ((os : List Operation) → calls_writable os ≡ true → write_calls os ≡ bs → ⊥) → read_calls bs ≡ none
calls_unwritten_refused = file.unwritten_refused calls_format_lawful
