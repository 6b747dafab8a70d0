use Rattle.records.specs.Stores.{compounding_prefix_stored}
use Rattle.records.proofs.registry.set_compounding_prefix.Goals as goal

pub returns : goal.returns
returns c = rw c.credentials_place-at.ensures (compounding_prefix_stored c.requires)
