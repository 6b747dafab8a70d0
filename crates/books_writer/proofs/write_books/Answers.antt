-- `books_writer::write_books` meets its contract.
use borrow.Author.Rules.{rules}
use Rattle.std.proofs.Common.{◌≡◌, sym, Err}
use Rattle.primitives.specs.Answers.{refusal_not_0}
use native.Mathlib.Omega.{arith}
use Rattle.records.specs.Lent.{lent_tables}
use Rattle.books_writer.specs.Laws.{ready, handed_refused, buffer_short, all_written}
use Rattle.books_writer.proofs.write_books.Goals as goal

pub returns-in_err-accept : goal.returns-in_err-accept
returns-in_err-accept c =
    let e : c.from_residual.result ≡ Err c.in_err-accept.field-0.0 = search rules in
    rw e (handed_refused _ _ _ _ _ c.in_err-accept.ensures.number_value (refusal_not_0 _))

pub file_length-length-requires : goal.file_length-length-requires
file_length-length-requires c =
    let lent = lent_tables c.args.books.now in
    let k = ready _ _ lent (sym c.in_ok-accept.ensures.number_value) in
    record {
      validators_bound = k.most_validators;
      deposits_bound = k.most_deposits;
      partials_bound = k.most_partials;
      consolidations_bound = k.most_consolidations;
    }

pub returns-then-out-length : goal.returns-then-out-length
returns-then-out-length c =
    let lent = lent_tables c.args.books.now in
    buffer_short _ _ lent _ (sym c.in_ok-accept.ensures.number_value)
    (omega (arith, c.file_length-length.ensures, c.if-out-length.true))

pub put_books-requires : goal.put_books-requires
put_books-requires c =
    let lent = lent_tables c.args.books.now in
    record {
      ready = ready _ _ lent (sym c.in_ok-accept.ensures.number_value);
      scalars_in_bounds = omega (arith, c.file_length-length.ensures, c.if-out-length.false);
    }

pub returns : goal.returns
returns c =
    let lent = lent_tables c.args.books.now in
    rw c.file_length-length.ensures
    (all_written _ _ lent _ _ (sym c.in_ok-accept.ensures.number_value)
    (omega (arith, c.file_length-length.ensures, c.if-out-length.false)) c.put_books.ensures.bytes
    c.put_books.ensures.start c.put_books.ensures.file)
