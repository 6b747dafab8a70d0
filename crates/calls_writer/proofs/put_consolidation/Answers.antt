use Rattle.calls_writer.specs.Fits.{consolidation_put}
use Rattle.calls_writer.proofs.put_consolidation.Goals as goal

pub returns : goal.returns
returns c =
    consolidation_put _ _ _ _ _ _ _ _ _ _ _ c.requires c.put_code.ensures c.put_number.ensures
    c.put_number-2.ensures c.put_number-3.ensures c.put_signature.ensures
