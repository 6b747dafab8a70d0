-- `file_words::triples_ok` meets its contract.
use Rattle.std.proofs.Common.{refl, rules}
use Rattle.file_format.specs.Words.{words}
use Rattle.file_words.specs.Laws.{triples_and, triples_outside}
use Rattle.file_words.proofs.triples_ok.Goals as goal

pub returns-then-rest-n : goal.returns-then-rest-n
returns-then-rest-n c = search (triples_outside, rules)

pub loop-i-preserved : goal.loop-i-preserved
loop-i-preserved c =
    triples_and (words c.args.rest.now) c.loop-i.i _ _ _ _ c.loop-i.invariant c.word_within.ensures
    c.is_word-good.ensures refl
