use mathlib.Core.Path.{sym, ap, ◌∙◌}
use mathlib.Core.List.{[]}
use Prim.Native.Nat.{ℕ}
use native.Mathlib.Omega.{arith}
use Rattle.rules.specs.BlockProcessing.{request_partial_withdrawal}
use Rattle.primitives.specs.Settings.{settings_of}
use Rattle.records.specs.Plain.{plain_validator}
use Rattle.records.specs.Books.{tables, books_of, partials_of}
use Rattle.helpers.specs.Lookups.{owed_at_most}
use Rattle.call_answers.specs.Answers.{judged_same, judged_as}
use Rattle.request_operations.specs.Requests.{to_withdraw, excess_above, queue_partial_withdrawal}
use Rattle.request_operations.specs.Requests.{partial_none, partial_some}
use Rattle.request_operations.proofs.request_partial_withdrawal.Goals as goal

pub has_excess-requires : goal.has_excess-requires
unfolding books_of
has_excess-requires c =
    let a = c.args in
    record {
      pending_bound =
          omega (
            arith,
            owed_at_most a.i.0 (partials_of a.scalars a.partials.now),
            c.get_pending_balance_to_withdraw-pending.ensures [] [] [] [],
            c.requires.partials.amounts,
          );
    }

pub returns-then-not-has_excess : goal.returns-then-not-has_excess
returns-then-not-has_excess c =
    λ ids ds cs read k.
    let a = c.args in
    let owed = c.get_pending_balance_to_withdraw-pending in
    judged_same k
    (partial_none (settings_of a.sound.settings) a.scalars (tables ids a.validators.now ds a.partials.now cs)
    a.i.0 c.requires.known_validator.0 (plain_validator a.v) owed.result.0 read
    (owed.ensures ids a.validators.now ds cs) a.amount.0
    (sym c.has_excess.ensures ∙ c.if-not-has_excess.true))

pub to_withdraw-withdrawn-requires : goal.to_withdraw-withdrawn-requires
to_withdraw-withdrawn-requires c =
    let a = c.args in
    excess_above (settings_of a.sound.settings) (plain_validator a.v)
    c.get_pending_balance_to_withdraw-pending.result.0 (sym c.has_excess.ensures ∙ c.if-not-has_excess.false)

pub queue_partial_withdrawal-requires : goal.queue_partial_withdrawal-requires
unfolding to_withdraw
queue_partial_withdrawal-requires c =
    let p = c.requires in
    record {
      registry = p.registry;
      accounts = p.accounts;
      partials = p.partials;
      amount_and_room = (
        omega (arith, c.to_withdraw-withdrawn.ensures, p.known_validator.1),
        p.known_validator.2,
      );
    }

pub returns : goal.returns
returns c =
    λ ids ds cs read k.
    let a = c.args in
    let S = settings_of a.sound.settings in
    let t = tables ids a.validators.now ds a.partials.now cs in
    let owed = c.get_pending_balance_to_withdraw-pending in
    judged_as (request_partial_withdrawal S a.i.0 a.amount.0)
    (ap (λ (n : ℕ). queue_partial_withdrawal S a.i.0 n (books_of a.scalars t)) c.to_withdraw-withdrawn.ensures
    ∙ partial_some S a.scalars t a.i.0 c.requires.known_validator.0 (plain_validator a.v)
    owed.result.0 read (owed.ensures ids a.validators.now ds cs) a.amount.0
    (sym c.has_excess.ensures ∙ c.if-not-has_excess.false))
    (c.queue_partial_withdrawal.ensures ids ds cs k)
