use borrow.Author.Rules.{rules}
use Rattle.calls_writer.specs.Fits.{amount_put}
use Rattle.calls_writer.proofs.put_amount.Goals as goal

pub returns : goal.returns
returns c = search (amount_put, rules)
