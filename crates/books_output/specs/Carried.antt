-- What the functions below the library function promise each other: the opening books in the tables, then the closing
-- books there and the lines in the results.
use Rattle.std.specs.Prelude.{◌≡◌, List, ℕ, ◌≤◌}
use Rattle.std.proofs.Math.Option.{some}
use Rattle.rules.specs.Types as rule
use Rattle.rules.specs.Calls.{Call, handed_refusal, run}
use Rattle.primitives.specs.Settings.{settings_of}
use Rattle.records.specs.Books.{Tables, tables, books_of, room_of}
use Rattle.file_format.specs.File.{read_books}
use Rattle.books_reader.specs.declared.Opened.{Opened}
use Rattle.table_text.specs.Lines.{lines_of}
use Rattle.runs.specs.Lines.{lines}
use Rattle.books_output.specs.declared.buffers.Buffers.{Buffers}
use Rattle.books_output.specs.declared.files.Closing.{Closing}
use Rattle.books_output.specs.Files.{Files, accepted, program_room, short_enough}

abbrev pub tables_in : Buffers → Tables
tables_in b = tables b.identities b.validators b.deposits b.partials b.consolidations

-- the opening read into the tables u
pub record Opens (bs : List ℕ) (u : Tables) (o : Opened) : Type 0 where
  pub books : short_enough read_books bs ≡ some (settings_of o.settings, books_of o.scalars u)
  pub accepted : handed_refusal (settings_of o.settings) (books_of o.scalars u) program_room ≡ 0

-- the calls carried out: closing books in the tables u, a line for each call in the results
pub record Done (f : Files) (u : Tables) (results : List ℕ) (r : Closing) : Type 0 where
  pub opening : rule.Books
  pub calls : List Call
  pub files : f ≡ accepted (settings_of r.settings) opening calls
  pub books : books_of r.scalars u ≡ run (settings_of r.settings) opening calls
  pub accepted : handed_refusal (settings_of r.settings) (books_of r.scalars u) (room_of u) ≡ 0
  pub lines : lines_of results r.count ≡ lines (settings_of r.settings) opening calls
  pub few : r.count ≤ 9_999
