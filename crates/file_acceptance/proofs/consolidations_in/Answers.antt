use Rattle.std.proofs.Common.{◌*◌, drop, refl, ◌∙◌, arith, rules, tests}
use Rattle.std.proofs.lemmas.Iterator.{YieldsList-from_range}
use Rattle.std.proofs.lemmas.Iterator.Search.{all_from_yields_List}
use Rattle.rules.specs.Acceptance.{consolidation_in}
use Rattle.file_format.specs.Words.{words}
use Rattle.file_format.specs.Books.{consolidation}
use Rattle.file_acceptance.specs.Laws.{rows_all}
use Rattle.file_acceptance.proofs.consolidations_in.Goals as goal

pub returns : goal.returns
returns c =
    let a = c.args in
    let ws = words a.records.now in
    all_from_yields_List (λ i. consolidation_in a.n (consolidation.value (drop (i * 6) ws))) _ _ c.all.result
    c.all.ensures.ran
    (YieldsList-from_range 0 a.m a.m refl (omega arith)) (λ x b q h. (search (rules, tests), search (rules, tests)))
    ∙ rows_all (consolidation_in a.n) (λ i. consolidation.value (drop (i * 6) ws)) a.m
