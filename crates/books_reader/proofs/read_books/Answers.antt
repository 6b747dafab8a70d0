-- Nothing is stored before the file is judged.
use Rattle.books_reader.specs.Laws.{read_good, read_fits, read_done}
use Rattle.books_reader.proofs.read_books.Goals as goal

pub invariant_of-store_books : goal.invariant_of-store_books
invariant_of-store_books c = record { good = read_good _ _ c.in_ok-opened.ensures.number }

pub store_books-requires : goal.store_books-requires
store_books-requires c =
    let s = c.in_ok-opened.ensures.opened.1 in
    record { scalars_read = s; fits = read_fits _ _ c.in_ok-opened.ensures.number s }

pub returns : goal.returns
returns c =
    read_done _ _ _ _ c.in_ok-opened.ensures.number c.in_ok-opened.ensures.opened.0 c.store_books.ensures
