use native.Mathlib.Omega.{arith}
use Rattle.runs.specs.Steps.{carrying_call, carrying_more, carrying_end}
use Rattle.runs.proofs.carry_out_calls.Goals as goal

pub invariant_of-call : goal.invariant_of-call
invariant_of-call c = record { good = carrying_call c.loop-i.invariant.0 c.loop-i-test.true }

pub loop-i-preserved : goal.loop-i-preserved
loop-i-preserved c =
    let line = c.carry_out_line-done in (
      carrying_more c.loop-i.invariant.0 c.loop-i-test.true c.requires.results_hold_calls line.ensures.written
          record {
            identities = line.auto.identities;
            validators = line.auto.validators;
            deposits = line.auto.deposits;
            partials = line.auto.partials;
            consolidations = line.auto.consolidations;
          }
          c.next-rest.ensures,
      line.ensures.still_holds,
    )

pub returns : goal.returns
returns c = carrying_end c.loop-i.invariant.0 (omega arith) c.requires.results_hold_calls
