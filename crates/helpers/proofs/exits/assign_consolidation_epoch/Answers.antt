use Rattle.records.specs.Books.{books_of}
use Rattle.helpers.specs.Exits.{consolidation_assignment}
use Rattle.helpers.proofs.exits.assign_consolidation_epoch.Goals as goal

pub returns-clause-assigned : goal.returns-clause-assigned
unfolding consolidation_assignment books_of
returns-clause-assigned c t = c.assign_account.ensures.assigned t
