use Rattle.calls_writer.specs.Fits.{receipt_put}
use Rattle.calls_writer.proofs.put_receipt.Goals as goal

pub returns : goal.returns
returns c =
    let fields = c.well_formed.1.1.0.1.1 in
    receipt_put _ _ _ _ _ _ _ _ _ _ _ _ _ fields.0.1.0.1 fields.1.0.1.0.1 c.requires c.put_code.ensures
    c.put_field.ensures c.put_field-2.ensures c.put_number.ensures c.put_number-2.ensures c.put_signature.ensures
