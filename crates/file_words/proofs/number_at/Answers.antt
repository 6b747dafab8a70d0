-- `file_words::number_at` meets its contract.
use Rattle.std.proofs.Common.{arith, rules}
use Rattle.file_words.specs.Laws.{number_inside, top_small, number_made}
use Rattle.file_words.proofs.number_at.Goals as goal

pub word_within-low-requires : goal.word_within-low-requires
word_within-low-requires c = omega (arith, number_inside c.args.rest.now c.requires)

pub word_within-middle-requires : goal.word_within-middle-requires
word_within-middle-requires c = omega (arith, number_inside c.args.rest.now c.requires)

pub word_within-top-requires : goal.word_within-top-requires
word_within-top-requires c = omega (arith, number_inside c.args.rest.now c.requires)

pub joined-requires : goal.joined-requires
joined-requires c = search (top_small, rules)

pub returns : goal.returns
returns c = search (number_made, rules)
