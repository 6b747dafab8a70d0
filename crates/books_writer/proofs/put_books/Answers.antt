-- `books_writer::put_books` meets its contract: each store keeps the buffer's length, and the words of `Ready` say that
-- the tables hold what is asked.
use Rattle.records.specs.Lent.{lent_tables}
use Rattle.books_writer.specs.Laws.{books_put}
use Rattle.books_writer.proofs.put_books.Goals as goal

pub returns-clause-file : goal.returns-clause-file
returns-clause-file c =
    books_put _ _ (lent_tables c.args.books.now) c.requires.ready _ _ _ _ _ _ _ c.requires.scalars_in_bounds
    c.put_front.ensures.front
    c.put_validators.ensures.list c.put_records.ensures c.put_records-2.ensures
    c.put_records-3.ensures c.put_end.ensures
