-- The writer is refused for the buffer alone: closing books are accepted.
use borrow.Author.Rules.{rules}
use Rattle.std.proofs.Common.{◌≡◌, Err}
use Rattle.books_output.specs.ClosingLaws.{closing_refused, closing_done, closing_within, part_there}
use Rattle.books_output.proofs.closing.closing_file.Goals as goal

pub returns-in_err-closing : goal.returns-in_err-closing
returns-in_err-closing c =
    let e : c.from_residual.result ≡ Err c.in_err-closing.field-0.0 = search rules in
    rw e (record { closing_written = closing_refused _ c.in_err-closing.ensures; within = tt; whole = tt })

pub returns : goal.returns
returns c =
    let w = closing_done c.in_ok-closing.ensures c.write_books.ensures in
    let within = closing_within _ w in
    record { closing_written = w; within = within; whole = part_there _ _ within }
