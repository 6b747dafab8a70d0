-- `books_file::validators_ok` meets its contract.
use Rattle.std.proofs.Common.{◌*◌, drop, refl, ◌∙◌, arith, rules, tests}
use Rattle.std.proofs.lemmas.Iterator.{YieldsList-from_range}
use Rattle.std.proofs.lemmas.Iterator.Search.{all_from_yields_List}
use Rattle.file_format.specs.Words.{words}
use Rattle.file_format.specs.Books.{validator}
use Rattle.file_format.proofs.AccessLaws.{fixed_validator}
use Rattle.file_words.specs.Laws.{many_all}
use Rattle.books_file.proofs.validators_ok.Goals as goal

pub returns : goal.returns
returns c =
    let a = c.args in
    let ws = words a.rest.now in
    all_from_yields_List (λ i. validator.ok (drop (i * 46) ws)) _ _ c.all.result c.all.ensures.ran
    (YieldsList-from_range 0 a.n a.n refl (omega arith)) (λ x b q h. (search (rules, tests), search (rules, tests)))
    ∙ many_all validator 46 fixed_validator ws a.n
