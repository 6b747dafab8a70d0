use mathlib.Core.Path.{refl, sym, ap, ◌∙◌}
use mathlib.Core.Bool.{not}
use native.Mathlib.Omega.{arith}
use borrow.Author.Tests.{eq-eqb, ne_eqb}
use Rattle.rules.specs.Types.{Validator}
use Rattle.rules.specs.Helpers.{position}
use Rattle.rules.specs.Calls.{own_refusal, result, withdrawal_request}
use Rattle.primitives.specs.Settings.{settings_of}
use Rattle.records.specs.Plain.{plain_validator}
use Rattle.records.specs.Books.{tables, books_of}
use Rattle.records.specs.Reading.{partials_count}
use Rattle.acceptance.specs.Handed.{accepted, facts}
use Rattle.helpers.specs.Ready.{registry_ready, accounts_ready, partials_ready, identities_ready}
use Rattle.call_answers.specs.Tests.{fails, passes}
use Rattle.call_answers.specs.Answers.{judged_called, judged_same, judged_as}
use Rattle.request_operations.specs.Requests.{may_far, request_read, balance_small, queue_room}
use Rattle.request_operations.proofs.Requested.{key_unknown, key_known}
use Rattle.request_operations.proofs.process_execution_layer_withdrawal_request.Goals as goal

pub returns-then-queue_is_full : goal.returns-then-queue_is_full
unfolding own_refusal result
returns-then-queue_is_full c =
    let a = c.args in
    let held = tables a.identities.now a.validators.now a.deposits.now a.partials.now a.consolidations.now in
    let S = settings_of a.settings in
    let f = facts S a.scalars held c.requires in
    judged_called {op = withdrawal_request a.source_address a.public_key a.amount.0} c.requires refl
    (judged_same f.books
    (request_read S a.scalars held a.source_address a.public_key a.amount.0
    (position a.public_key (books_of a.scalars held).validators) refl
    (fails _ _ (sym c.queue_is_full.ensures ∙ c.if-queue_is_full.true))))

pub position-found-requires : goal.position-found-requires
position-found-requires c =
    let a = c.args in
    let held = tables a.identities.now a.validators.now a.deposits.now a.partials.now a.consolidations.now in
    let S = settings_of a.settings in
    let f = facts S a.scalars held c.requires in
    identities_ready S a.scalars held f.settings f.room f.books

pub returns-in_default : goal.returns-in_default
unfolding own_refusal result
returns-in_default c =
    let a = c.args in
    let held = tables a.identities.now a.validators.now a.deposits.now a.partials.now a.consolidations.now in
    let S = settings_of a.settings in
    let f = facts S a.scalars held c.requires in
    judged_called {op = withdrawal_request a.source_address a.public_key a.amount.0} c.requires refl
    (judged_same f.books
    (key_unknown S a.scalars held a.source_address a.public_key a.amount.0
    (sym c.queue_is_full.ensures ∙ c.if-queue_is_full.false)
    (c.in_default.ensures a.validators.now a.deposits.now a.partials.now a.consolidations.now)))

pub validator_at-v-requires : goal.validator_at-v-requires
validator_at-v-requires c =
    let a = c.args in
    let held = tables a.identities.now a.validators.now a.deposits.now a.partials.now a.consolidations.now in
    let S = settings_of a.settings in
    let f = facts S a.scalars held c.requires in
    let found = c.in-Some.ensures a.validators.now a.deposits.now a.partials.now a.consolidations.now in
    let n = identities_ready S a.scalars held f.settings f.room f.books in
    let m = (registry_ready S a.scalars held f.settings f.room f.books).fit in
    (omega (arith, found.1, n), omega (arith, found.1, m))

pub invariant_of-sound : goal.invariant_of-sound
invariant_of-sound c = record { sound = (accepted _ _ _ c.requires).settings }

pub may_request-requires : goal.may_request-requires
may_request-requires c =
    let a = c.args in
    let held = tables a.identities.now a.validators.now a.deposits.now a.partials.now a.consolidations.now in
    let S = settings_of a.settings in
    let f = facts S a.scalars held c.requires in
    record {
      current_epoch_bound = (accounts_ready S a.scalars held f.settings f.room f.books).epoch;
    }

pub returns-then-not-may_request : goal.returns-then-not-may_request
unfolding own_refusal result
returns-then-not-may_request c =
    let a = c.args in
    let held = tables a.identities.now a.validators.now a.deposits.now a.partials.now a.consolidations.now in
    let S = settings_of a.settings in
    let f = facts S a.scalars held c.requires in
    let found = c.in-Some.ensures a.validators.now a.deposits.now a.partials.now a.consolidations.now in
    judged_called {op = withdrawal_request a.source_address a.public_key a.amount.0} c.requires refl
    (judged_same f.books
    (key_known S a.scalars held a.source_address a.public_key a.amount.0
    (sym c.queue_is_full.ensures ∙ c.if-queue_is_full.false) c.in-Some.i.0 found.0 found.1
    (plain_validator c.validator_at-v.result) c.validator_at-v.ensures
    (fails _ _ (ap not (sym c.may_request.ensures ∙ c.if-not-may_request.true)))))

pub request_full_exit-requires : goal.request_full_exit-requires
request_full_exit-requires c =
    let a = c.args in
    let held = tables a.identities.now a.validators.now a.deposits.now a.partials.now a.consolidations.now in
    let S = settings_of a.settings in
    let f = facts S a.scalars held c.requires in
    let found = c.in-Some.ensures a.validators.now a.deposits.now a.partials.now a.consolidations.now in
    let far =
    may_far S a.scalars.epoch.0 (plain_validator c.validator_at-v.result) a.source_address
    (sym c.may_request.ensures ∙ c.if-not-may_request.false) in
    record {
      registry = registry_ready S a.scalars held f.settings f.room f.books;
      accounts = accounts_ready S a.scalars held f.settings f.room f.books;
      partials = partials_ready S a.scalars held f.settings f.room f.books;
      not_begun = (found.1, ap (λ (w : Validator). w.exit_epoch) (sym c.validator_at-v.ensures) ∙ far);
    }

pub returns-then-amount-eq0 : goal.returns-then-amount-eq0
unfolding own_refusal result
returns-then-amount-eq0 c =
    let a = c.args in
    let held = tables a.identities.now a.validators.now a.deposits.now a.partials.now a.consolidations.now in
    let S = settings_of a.settings in
    let f = facts S a.scalars held c.requires in
    let found = c.in-Some.ensures a.validators.now a.deposits.now a.partials.now a.consolidations.now in
    judged_called {op = withdrawal_request a.source_address a.public_key a.amount.0} c.requires refl
    (judged_as _
    (key_known S a.scalars held a.source_address a.public_key a.amount.0
    (sym c.queue_is_full.ensures ∙ c.if-queue_is_full.false) c.in-Some.i.0 found.0 found.1
    (plain_validator c.validator_at-v.result) c.validator_at-v.ensures
    (passes _ _ (ap not (sym c.may_request.ensures ∙ c.if-not-may_request.false))
    (fails _ _ (eq-eqb _ _ c.if-amount-eq0.true))))
    (c.request_full_exit.ensures a.identities.now a.deposits.now a.consolidations.now f.books))

pub request_partial_withdrawal-requires : goal.request_partial_withdrawal-requires
request_partial_withdrawal-requires c =
    let a = c.args in
    let held = tables a.identities.now a.validators.now a.deposits.now a.partials.now a.consolidations.now in
    let S = settings_of a.settings in
    let f = facts S a.scalars held c.requires in
    let found = c.in-Some.ensures a.validators.now a.deposits.now a.partials.now a.consolidations.now in
    let balance = balance_small S a.scalars held c.in-Some.i.0 found.1 f.books in
    let room =
    queue_room a.scalars.partials S.pending_partial_withdrawals_limit a.amount.0
    (sym c.queue_is_full.ensures ∙ c.if-queue_is_full.false) c.if-amount-eq0.false in
    record {
      registry = registry_ready S a.scalars held f.settings f.room f.books;
      accounts = accounts_ready S a.scalars held f.settings f.room f.books;
      partials = partials_ready S a.scalars held f.settings f.room f.books;
      known_validator = (
        found.1,
        omega (arith, balance, ap (λ (w : Validator). w.balance) c.validator_at-v.ensures),
        omega (arith, room, f.books.partials_fit, f.room.partials, partials_count a.scalars held),
      );
    }

pub returns : goal.returns
unfolding own_refusal result
returns c =
    let a = c.args in
    let held = tables a.identities.now a.validators.now a.deposits.now a.partials.now a.consolidations.now in
    let S = settings_of a.settings in
    let f = facts S a.scalars held c.requires in
    let found = c.in-Some.ensures a.validators.now a.deposits.now a.partials.now a.consolidations.now in
    judged_called {op = withdrawal_request a.source_address a.public_key a.amount.0} c.requires refl
    (judged_as _
    (key_known S a.scalars held a.source_address a.public_key a.amount.0
    (sym c.queue_is_full.ensures ∙ c.if-queue_is_full.false) c.in-Some.i.0 found.0 found.1
    (plain_validator c.validator_at-v.result) c.validator_at-v.ensures
    (passes _ _ (ap not (sym c.may_request.ensures ∙ c.if-not-may_request.false))
    (passes _ _ (ne_eqb _ _ c.if-amount-eq0.false) refl)))
    (c.request_partial_withdrawal.ensures a.identities.now a.deposits.now a.consolidations.now
    c.validator_at-v.ensures f.books))
