use borrow.Author.Rules.{rules}
use Rattle.calls_writer.specs.Fits.{request_put}
use Rattle.calls_writer.proofs.put_request.Goals as goal

pub returns : goal.returns
returns c = search (request_put, rules)
