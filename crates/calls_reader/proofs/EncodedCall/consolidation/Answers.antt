-- `calls_reader::EncodedCall::consolidation` meets its contract.
use Rattle.std.proofs.Common.{rules}
use Rattle.calls_reader.specs.Fields.{consolidation_source_ok, consolidation_target_ok}
use Rattle.calls_reader.specs.Fields.{consolidation_epoch_ok, consolidation_read}
use Rattle.calls_reader.proofs.EncodedCall.consolidation.Goals as goal

pub number_at-requires : goal.number_at-requires
number_at-requires c = search (consolidation_source_ok, rules)

pub number_at-requires-2 : goal.number_at-requires-2
number_at-requires-2 c = search (consolidation_target_ok, rules)

pub number_at-requires-3 : goal.number_at-requires-3
number_at-requires-3 c = search (consolidation_epoch_ok, rules)

pub returns : goal.returns
returns c = search (consolidation_read, rules)
