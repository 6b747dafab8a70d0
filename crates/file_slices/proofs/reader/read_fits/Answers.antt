use Rattle.slices.specs.Exported.{fit_two}
use Rattle.file_slices.proofs.reader.read_fits.Goals as goal

pub returns : goal.returns
returns c = fit_two _ _
