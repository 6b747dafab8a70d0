-- What the reader of a books file promises.
use Rattle.std.specs.Prelude.{◌≡◌, List, ℕ, Result, IfOk, IfErr}
use Rattle.std.proofs.Math.Option.{some}
use Rattle.primitives.specs.declared.answers.Refusal.{Refusal}
use Rattle.primitives.specs.Answers.{answer_number}
use Rattle.primitives.specs.Settings.{settings_of}
use Rattle.records.specs.Books.{Tables, books_of, room_of, Beyond}
use Rattle.file_format.specs.File.{read_books}
use Rattle.file_format.specs.Answers.{read_answer}
use Rattle.books_reader.specs.declared.Opened.{Opened}

-- Reading the bytes bs into tables that held t leaves the tables u, and answers r, with the number of the definition.
-- Of books that were opened: the settings and books that the file reads to, and past these books every word as it was.
-- Of a refusal: the tables as they were.
pub record BooksRead (bs : List ℕ) (t u : Tables) (r : Result Opened Refusal) : Type 0 where
  pub number : answer_number r ≡ read_answer (room_of t) bs
  pub books : IfOk r (λ o. read_books bs ≡ some (settings_of o.settings, books_of o.scalars u))
  pub beyond : IfOk r (λ o. Beyond o.scalars u t)
  pub refused : IfErr r (λ _. u ≡ t)
