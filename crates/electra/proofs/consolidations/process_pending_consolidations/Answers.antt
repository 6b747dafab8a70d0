use Rattle.std.proofs.Common.{◌≡◌, Err, rules, sym, ◌∙◌}
use borrow.Author.Tests.{leb-true}
use Rattle.acceptance.specs.Handed.{accepted}
use Rattle.primitives.specs.Answers.{refusal_not_0}
use Rattle.call_answers.specs.Called.{handed_refused}
use Rattle.epoch_turns.specs.Epoch.{step_known, consolidations_over, consolidations_done}
use Rattle.electra.proofs.consolidations.process_pending_consolidations.Goals as goal

pub returns-in_err-accept : goal.returns-in_err-accept
returns-in_err-accept c =
    let e : c.from_residual.result ≡ Err c.in_err-accept.field-0.0 = search rules in
    rw e (handed_refused _ _ _ _ _ c.in_err-accept.ensures.number_value (refusal_not_0 _))

pub consolidations_fit-requires : goal.consolidations_fit-requires
consolidations_fit-requires c = step_known _ _ (sym c.in_ok-accept.ensures.number_value)

pub returns-then-not-consolidations_fit : goal.returns-then-not-consolidations_fit
returns-then-not-consolidations_fit c =
    consolidations_over _ _ _ (sym c.in_ok-accept.ensures.number_value)
    (sym (c.consolidations_fit.ensures c.args.deposits.now c.args.partials.now) ∙ c.if-not-consolidations_fit.true)

pub process_pending_consolidations-after-requires : goal.process_pending_consolidations-after-requires
process_pending_consolidations-after-requires c =
    let h = accepted _ _ _ (sym c.in_ok-accept.ensures.number_value) in
    record {
      room = h.room;
      books_are_sound = h.books;
      queue_fits = leb-true _ _
          (sym (c.consolidations_fit.ensures c.args.deposits.now c.args.partials.now)
          ∙ c.if-not-consolidations_fit.false);
    }

pub returns : goal.returns
returns c =
    consolidations_done _ _ _ (sym c.in_ok-accept.ensures.number_value)
    (sym (c.consolidations_fit.ensures c.args.deposits.now c.args.partials.now)
    ∙ c.if-not-consolidations_fit.false)
    c.process_pending_consolidations-after.ensures
