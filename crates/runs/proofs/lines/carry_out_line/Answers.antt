use Rattle.std.proofs.Common.{rules}
use mathlib.Core.Path.{refl, sym, ◌∙◌}
use Rattle.acceptance.specs.Held.{held_form}
use Rattle.file_calls.specs.Laws.{code_written, sum_small}
use Rattle.runs.specs.Sums.{followed_in}
use Rattle.runs.specs.Steps.{still_accepted, sum_known, line_written}
use Rattle.runs.proofs.lines.carry_out_line.Goals as goal

pub penalty_taken-taken-requires-clause-validators_stored : goal.penalty_taken-taken-requires-clause-validators_stored
penalty_taken-taken-requires-clause-validators_stored c = (sum_known _ _ _ c.requires.accepted).validators_fit

pub held_after-total-requires : goal.held_after-total-requires
held_after-total-requires c =
    let call = c.carry_out_call-answer in
    let left = still_accepted c.requires.accepted call.ensures (record {
      identities = call.auto.identities;
      validators = call.auto.validators;
      deposits = call.auto.deposits;
      partials = call.auto.partials;
      consolidations = call.auto.consolidations;
    }) in
    let sums = followed_in call.ensures c.requires.holds (sum_small _ _ _ left refl)
    (c.penalty_taken-taken.ensures _ _ _ _) in
    rw (c.unwrap_or-after.ensures, c.answer_number-number.ensures)
    (record { held_ready = sum_known _ _ _ left; kind_read = c.kind-kind.ensures; followed = sums })

-- `search` finds that a kind is cast to its code
pub returns : goal.returns
returns c =
    let code = code_written _ _ c.kind-kind.ensures in
    let total = c.held_after-total.ensures ∙ sym (held_form _ _) in
    let called =
    rw (← c.unwrap_or-after.ensures, ← c.answer_number-number.ensures) at c.carry_out_call-answer.ensures in
    record {
      written = line_written c.answer_number-number.result called c.put_line.ensures (search rules ∙ code) total;
      still_holds = total;
    }
