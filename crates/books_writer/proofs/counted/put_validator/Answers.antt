use borrow.Author.Rules.{rules}
use Rattle.books_writer.specs.Lists.{validator_put}
use Rattle.books_writer.proofs.counted.put_validator.Goals as goal

pub returns : goal.returns
returns c =
    validator_put _ _ _ _ _ _ c.args.v (search rules) (search rules) c.requires.k_in_bounds
    c.put_field.ensures c.put_field-2.ensures c.put_flag.ensures c.put_numbers.ensures
