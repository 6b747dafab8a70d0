use borrow.Author.Rules.{rules}
use Rattle.calls_writer.specs.Fits.{exit_put}
use Rattle.calls_writer.proofs.put_exit.Goals as goal

pub returns : goal.returns
returns c = search (exit_put, rules)
