use Rattle.std.proofs.Common.{◌≡◌, refl, sym, Err, rules}
use Rattle.primitives.specs.Answers.{refusal_not_0}
use Rattle.rules.specs.BlockProcessing.{process_voluntary_exit}
use Rattle.rules.specs.Calls.{own_refusal, result, voluntary_exit}
use Rattle.primitives.specs.Settings.{settings_of}
use Rattle.records.specs.Books.{tables}
use Rattle.acceptance.specs.Handed.{accepted, facts}
use Rattle.helpers.specs.Ready.{registry_ready, accounts_ready, partials_ready, identities_ready}
use Rattle.call_answers.specs.Called.{own_refused}
use Rattle.call_answers.specs.Answers.{judged_called, judged_as}
use Rattle.exit_operations.specs.Exits.{exit_allowed}
use Rattle.exit_operations.proofs.process_voluntary_exit.Goals as goal

pub invariant_of-sound : goal.invariant_of-sound
invariant_of-sound c = record { sound = (accepted _ _ _ c.requires).settings }

pub voluntary_exit_refusal-requires : goal.voluntary_exit_refusal-requires
voluntary_exit_refusal-requires c =
    let held =
    tables c.args.identities.now c.args.validators.now c.args.deposits.now c.args.partials.now
    c.args.consolidations.now in
    let f = facts (settings_of c.args.settings) c.args.scalars held c.requires in
    let S = settings_of c.args.settings in
    let s = c.args.scalars in
    record {
      identities_room = identities_ready S s held f.settings f.room f.books;
      registry = registry_ready S s held f.settings f.room f.books;
      accounts = accounts_ready S s held f.settings f.room f.books;
      partials = partials_ready S s held f.settings f.room f.books;
    }

pub returns-in_err-voluntary_exit_refusal : goal.returns-in_err-voluntary_exit_refusal
unfolding own_refusal
returns-in_err-voluntary_exit_refusal c =
    let e : c.from_residual.result ≡ Err c.in_err-voluntary_exit_refusal.field-0.0 = search rules in
    rw e (own_refused _ _ _ _ _ c.requires
    (c.in_err-voluntary_exit_refusal.ensures c.args.deposits.now c.args.consolidations.now) (refusal_not_0 _))

pub exit_within_bound-requires : goal.exit_within_bound-requires
exit_within_bound-requires c =
    let held =
    tables c.args.identities.now c.args.validators.now c.args.deposits.now c.args.partials.now
    c.args.consolidations.now in
    let f = facts (settings_of c.args.settings) c.args.scalars held c.requires in
    let a = c.args in
    let S = settings_of a.settings in
    record {
      registry = registry_ready S a.scalars held f.settings f.room f.books;
      accounts = accounts_ready S a.scalars held f.settings f.room f.books;
      not_begun =
          exit_allowed S a.scalars held a.i.0 a.epoch.0 a.valid
          (sym (c.in_ok-voluntary_exit_refusal.ensures a.deposits.now a.consolidations.now));
    }

pub returns : goal.returns
unfolding own_refusal result process_voluntary_exit
returns c =
    let held =
    tables c.args.identities.now c.args.validators.now c.args.deposits.now c.args.partials.now
    c.args.consolidations.now in
    let f = facts (settings_of c.args.settings) c.args.scalars held c.requires in
    let a = c.args in
    judged_called {op = voluntary_exit a.i.0 a.epoch.0 a.valid} c.requires
    (sym (c.in_ok-voluntary_exit_refusal.ensures a.deposits.now a.consolidations.now))
    (judged_as _ refl
    (c.exit_within_bound.ensures a.identities.now a.deposits.now a.partials.now
    a.consolidations.now f.books))
