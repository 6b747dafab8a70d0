-- `calls_reader::withdrawal_list_ok` meets its contract.
use Rattle.std.proofs.Common.{◌*◌, drop, refl, ◌∙◌, arith, rules, tests}
use Rattle.std.proofs.lemmas.Iterator.{YieldsList-from_range}
use Rattle.std.proofs.lemmas.Iterator.Search.{all_from_yields_List}
use Rattle.file_format.specs.Words.{words}
use Rattle.file_format.specs.Calls.{withdrawal}
use Rattle.file_words.specs.Laws.{many_all}
use Rattle.calls_reader.specs.Widths.{fixed_withdrawal}
use Rattle.calls_reader.proofs.withdrawal_list_ok.Goals as goal

pub returns : goal.returns
returns c =
    let a = c.args in
    let ws = words a.rest.now in
    all_from_yields_List (λ i. withdrawal.ok (drop (i * 16) ws)) _ _ c.all.result c.all.ensures.ran
    (YieldsList-from_range 0 a.n a.n refl (omega arith)) (λ x b q h. search (rules, tests))
    ∙ many_all withdrawal 16 fixed_withdrawal ws a.n
