-- Books that are lent together for reading: their tables, the rules' books in them, and the room that the tables have.
use Rattle.rules.specs.Types as rule
use Rattle.rules.specs.Calls.{Room}
use Rattle.records.specs.declared.books.Books.{Books}
use Rattle.records.specs.Books.{Tables, tables, books_of, room_of}

abbrev pub lent_tables : Books → Tables
lent_tables b = tables b.identities.now b.validators.now b.deposits.now b.partials.now b.consolidations.now

abbrev pub plain_books : Books → rule.Books
plain_books b = books_of b.scalars (lent_tables b)

abbrev pub lent_room : Books → Room
lent_room b = room_of (lent_tables b)
