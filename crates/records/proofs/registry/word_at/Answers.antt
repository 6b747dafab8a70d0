use Rattle.std.proofs.Common.{ap, ◌∙◌, get_or}
use Rattle.records.specs.Plain.{column_number}
use Rattle.records.specs.Stores.{word_read}
use Rattle.records.proofs.registry.word_at.Goals as goal

pub returns : goal.returns
returns c =
    ap (λ k. get_or c.args.validators.now k 0) c.word_place.ensures.place
    ∙ word_read (column_number c.args.column) c.args.validators.now c.args.i.0 c.requires
