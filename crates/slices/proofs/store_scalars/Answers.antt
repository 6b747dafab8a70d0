use Rattle.std.proofs.Common.{◌∙◌, ap, sym, length, length-take-le}
use Rattle.slices.proofs.store_scalars.Goals as goal

pub copy_from_slice-requires : goal.copy_from_slice-requires
copy_from_slice-requires c = length-take-le 13 c.args.scalars.now c.requires ∙ sym (ap length c.into-numbers.ensures)
