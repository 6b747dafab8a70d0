use borrow.Author.Rules.{rules}
use Rattle.calls_writer.specs.Closed.{close_made}
use Rattle.calls_writer.proofs.close.Goals as goal

pub returns : goal.returns
returns c =
    let stored =
    close_made _ _ _ _ _ c.calls_count-count.ensures c.put_count.ensures c.put_end.ensures in
    (stored, search rules)
