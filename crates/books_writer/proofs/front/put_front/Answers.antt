use Rattle.std.proofs.Common.{ap, take, rules}
use Rattle.books_writer.specs.Parts.{front_put}
use Rattle.books_writer.proofs.front.put_front.Goals as goal

pub returns-clause-front : goal.returns-clause-front
returns-clause-front c =
    front_put _ _ _ _ _ _ _ _ (search rules) c.into-first.ensures (ap (take 9) c.into-second.ensures)
    c.put_word.ensures c.put_numbers.ensures c.put_numbers-2.ensures
