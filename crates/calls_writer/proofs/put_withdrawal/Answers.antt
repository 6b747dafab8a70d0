use Rattle.calls_writer.specs.Listed.{withdrawal_put}
use Rattle.calls_writer.proofs.put_withdrawal.Goals as goal

pub returns : goal.returns
returns c =
    let w = c.args.w in
    let l = c.well_formed.1.1.0.1.1.1.1.0.1.0.1 in
    withdrawal_put _ _ _ _ _ _ w l c.requires c.put_number.ensures c.put_number-2.ensures
    c.put_field.ensures c.put_number-3.ensures
