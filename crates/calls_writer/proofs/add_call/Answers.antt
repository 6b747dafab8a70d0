use Rattle.std.proofs.Common.{◌≡◌, refl, Err, rules}
use Rattle.primitives.specs.Answers.{refusal_not_0}
use Rattle.calls_writer.specs.Handed.{width_fits}
use Rattle.calls_writer.specs.Opened.{open_place, added_refused, added_never}
use Rattle.calls_writer.specs.Closed.{call_ready, added_done}
use Rattle.calls_writer.proofs.add_call.Goals as goal

pub returns-in_default : goal.returns-in_default
returns-in_default c = search (added_never, rules)

pub returns-in_err-open : goal.returns-in_err-open
returns-in_err-open c =
    let e : c.from_residual.result ≡ Err c.in_err-open.field-0.0 = search rules in
    let fine = width_fits c.args.call _ c.well_formed.1.1.0 c.in-Some.ensures in
    rw e (added_refused _ _ _ _ _ c.in_err-open.ensures fine (refusal_not_0 _))

pub overflow_sub-size : goal.overflow_sub-size
overflow_sub-size c = open_place _ _ _ _ c.in_ok-open.ensures refl

pub close-requires : goal.close-requires
close-requires c =
    let fine = width_fits c.args.call _ c.well_formed.1.1.0 c.in-Some.ensures in
    call_ready _ _ _ _ _ _ c.in_ok-open.ensures refl fine c.put_call.ensures

pub returns : goal.returns
returns c =
    let fine = width_fits c.args.call _ c.well_formed.1.1.0 c.in-Some.ensures in
    added_done _ _ _ _ _ _ c.in_ok-open.ensures refl fine c.put_call.ensures _ _ c.close.ensures
