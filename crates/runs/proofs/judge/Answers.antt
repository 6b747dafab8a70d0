use Rattle.std.proofs.Common.{◌≡◌, Err, rules, sym, ◌∙◌}
use Rattle.primitives.specs.Answers.{refusal_not_0}
use Rattle.acceptance.specs.Total.{total_held}
use Rattle.runs.specs.Answers.{books_refused, file_refused, results_refused, nothing_refused, all_runnable}
use Rattle.runs.proofs.judge.Goals as goal

pub returns-in_err-held-clause-number : goal.returns-in_err-held-clause-number
returns-in_err-held-clause-number c =
    let e : c.from_residual.result ≡ Err c.in_err-held.field-0.0 = search rules in
    rw e (books_refused _ _ _ _ _ c.in_err-held.ensures.number_value (refusal_not_0 _))

pub returns-then-not-calls_file_ok-clause-number : goal.returns-then-not-calls_file_ok-clause-number
returns-then-not-calls_file_ok-clause-number c =
    let broken = sym c.calls_file_ok.ensures ∙ c.if-not-calls_file_ok.true in
    file_refused _ _ _ _ _ (sym c.in_ok-held.ensures.number_value) broken

pub returns-then-space-count-clause-number : goal.returns-then-space-count-clause-number
returns-then-space-count-clause-number c =
    let good = sym c.calls_file_ok.ensures ∙ c.if-not-calls_file_ok.false in
    results_refused _ _ _ _ _ (sym c.in_ok-held.ensures.number_value) good c.calls_count-count.ensures
    c.if-space-count.true

pub returns : goal.returns
returns c =
    let h = sym c.in_ok-held.ensures.number_value in
    let good = sym c.calls_file_ok.ensures ∙ c.if-not-calls_file_ok.false in
    let count = c.calls_count-count.ensures in
    record {
      number = nothing_refused _ _ _ _ _ h good count c.if-space-count.false;
      runnable =
          all_runnable _ _ _ _ _ h good count c.if-space-count.false
          (total_held _ _ _ h c.in_ok-held.ensures.held_value);
    }
