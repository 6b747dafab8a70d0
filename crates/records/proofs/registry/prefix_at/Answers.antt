use mathlib.Core.Path.{ap, ◌∙◌}
use lib.ListN.{get_or}
use Rattle.records.specs.Stores.{prefix_read}
use Rattle.records.proofs.registry.prefix_at.Goals as goal

pub returns : goal.returns
returns c =
    let ids = c.args.identities.now in
    ap (λ at. get_or ids at 0) c.credentials_place.ensures ∙ prefix_read ids c.args.i.0 c.requires
