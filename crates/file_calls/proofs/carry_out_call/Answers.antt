use Rattle.file_calls.specs.Laws.{sum_small}
use Rattle.file_calls.proofs.carry_out_call.Goals as goal

pub sum_within-sums-requires : goal.sum_within-sums-requires
sum_within-sums-requires c = sum_small _ _ _ c.requires.accepted c.requires.holds
