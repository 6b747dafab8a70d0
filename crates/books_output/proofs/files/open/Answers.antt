-- The room stays, since the tables keep their lengths.
use native.Mathlib.Omega.{arith}
use Rattle.books_output.proofs.Laws.{program_buffers, opening_too_long, opening_read}
use Rattle.books_output.specs.Carried.{tables_in}
use Rattle.books_output.proofs.files.open.Goals as goal

pub returns-then-file-gt-MOST_BYTES : goal.returns-then-file-gt-MOST_BYTES
returns-then-file-gt-MOST_BYTES c = opening_too_long c.args.file.now (omega (arith, c.if-file-gt-MOST_BYTES.true))

pub returns : goal.returns
returns c =
    opening_read c.args.file.now (tables_in c.args.buffers.now) _ _
    (program_buffers _ _ _ _ _ (omega arith) (omega arith) (omega arith) (omega arith) (omega arith))
    (omega (arith, c.if-file-gt-MOST_BYTES.false)) c.read_books.ensures
