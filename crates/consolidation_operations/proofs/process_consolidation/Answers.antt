use Rattle.std.proofs.Common.{Err, refl, rules, sym, ◌≡◌}
use Rattle.primitives.specs.Answers.{refusal_not_0}
use Prim.Native.Nat.{◌<◌}
use native.Mathlib.Omega.{arith}
use Rattle.rules.specs.Calls.{own_refusal, result, consolidation}
use Rattle.primitives.specs.Settings.{settings_of}
use Rattle.records.specs.Books.{tables}
use Rattle.acceptance.specs.Handed.{accepted, facts}
use Rattle.helpers.specs.Ready.{registry_ready, accounts_ready, identities_ready}
use Rattle.call_answers.specs.Called.{own_refused}
use Rattle.call_answers.specs.Answers.{judged_called, judged_as}
use Rattle.consolidation_operations.specs.Consolidations.{consolidation_allowed}
use Rattle.consolidation_operations.proofs.process_consolidation.Goals as goal

pub invariant_of-sound : goal.invariant_of-sound
invariant_of-sound c = record { sound = (accepted _ _ _ c.requires).settings }

pub get_consolidation_churn_limit-churn-requires : goal.get_consolidation_churn_limit-churn-requires
get_consolidation_churn_limit-churn-requires c =
    let held =
    tables c.args.identities.now c.args.validators.now c.args.deposits.now c.args.partials.now
    c.args.consolidations.now in
    let f = facts (settings_of c.args.settings) c.args.scalars held c.requires in
    let S = settings_of c.args.settings in
    record {
      registry = registry_ready S c.args.scalars held f.settings f.room f.books;
    }

pub consolidation_refusal-requires : goal.consolidation_refusal-requires
consolidation_refusal-requires c =
    let held =
    tables c.args.identities.now c.args.validators.now c.args.deposits.now c.args.partials.now
    c.args.consolidations.now in
    let f = facts (settings_of c.args.settings) c.args.scalars held c.requires in
    let a = c.args in
    let S = settings_of a.settings in
    record {
      tables_hold = (
        identities_ready S a.scalars held f.settings f.room f.books,
        (registry_ready S a.scalars held f.settings f.room f.books).fit,
      );
      churn_is = c.get_consolidation_churn_limit-churn.ensures a.identities.now a.deposits.now a.partials.now
          a.consolidations.now;
    }

pub returns-in_err-consolidation_refusal : goal.returns-in_err-consolidation_refusal
unfolding own_refusal
returns-in_err-consolidation_refusal c =
    let e : c.from_residual.result ≡ Err c.in_err-consolidation_refusal.field-0.0 = search rules in
    rw e (
    let a = c.args in
    own_refused _ _ _ _ _ c.requires
    (c.in_err-consolidation_refusal.ensures a.deposits.now a.partials.now a.consolidations.now)
    (refusal_not_0 _))

pub consolidation_within_bound-requires : goal.consolidation_within_bound-requires
consolidation_within_bound-requires c =
    let held =
    tables c.args.identities.now c.args.validators.now c.args.deposits.now c.args.partials.now
    c.args.consolidations.now in
    let f = facts (settings_of c.args.settings) c.args.scalars held c.requires in
    let a = c.args in
    let S = settings_of a.settings in
    let churn = c.get_consolidation_churn_limit-churn.ensures in
    let allowed =
    consolidation_allowed S a.scalars held a.source.0 a.target.0 a.epoch.0 a.valid
    (sym (c.in_ok-consolidation_refusal.ensures a.deposits.now a.partials.now a.consolidations.now)) in
    let some : 0 < c.get_consolidation_churn_limit-churn.result.0 =
    omega (
      arith,
      allowed.1,
      churn a.identities.now a.deposits.now a.partials.now a.consolidations.now,
    ) in
    record {
      registry = registry_ready S a.scalars held f.settings f.room f.books;
      accounts = accounts_ready S a.scalars held f.settings f.room f.books;
      churn_is_some = (some, churn);
      known_source_and_room = (allowed.2, omega (arith, allowed.0, f.room.consolidations));
    }

pub returns : goal.returns
unfolding own_refusal result
returns c =
    let held =
    tables c.args.identities.now c.args.validators.now c.args.deposits.now c.args.partials.now
    c.args.consolidations.now in
    let f = facts (settings_of c.args.settings) c.args.scalars held c.requires in
    let a = c.args in
    judged_called {op = consolidation a.source.0 a.target.0 a.epoch.0 a.valid} c.requires
    (sym (c.in_ok-consolidation_refusal.ensures a.deposits.now a.partials.now a.consolidations.now))
    (judged_as _ refl
    (c.consolidation_within_bound.ensures a.identities.now a.deposits.now a.partials.now
    f.books))
