use mathlib.Core.Path.{sym, ◌∙◌}
use Rattle.file_slices.specs.Read.{unfit_broken, unfit_whole}
use Rattle.file_slices.proofs.reader.unfit_answer.Goals as goal

pub returns-then-not-books_file_ok : goal.returns-then-not-books_file_ok
returns-then-not-books_file_ok c =
    c.number.ensures ∙ unfit_broken c.args.file.now (sym c.books_file_ok.ensures ∙ c.if-not-books_file_ok.true)

pub returns : goal.returns
returns c =
    unfit_whole c.args.file.now (sym c.books_file_ok.ensures ∙ c.if-not-books_file_ok.false) c.settings_at.ensures
    c.unfit_answer.ensures
