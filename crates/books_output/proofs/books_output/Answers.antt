-- No more than 9,999 calls come, so that the table fits.
use Rattle.books_output.proofs.Laws.{output_refused, output_done}
use Rattle.books_output.proofs.Laws.{printed_within, printed_part}
use Rattle.books_output.proofs.books_output.Goals as goal

pub returns-in-Ok : goal.returns-in-Ok
returns-in-Ok c =
    let p = c.put_table.ensures in record {
      books_output = output_done c.if-out-lt-MOST_PRINTED.false c.in-Ok.ensures p;
      within = printed_within p;
      whole = printed_part p;
    }

pub returns-in-Err : goal.returns-in-Err
returns-in-Err c =
    let p = c.put_refused.ensures in record {
      books_output = output_refused c.if-out-lt-MOST_PRINTED.false c.in-Err.ensures (rw c.number.ensures at p);
      within = printed_within p;
      whole = printed_part p;
    }
