use mathlib.Core.Path.{sym, ◌∙◌}
use native.Mathlib.Omega.{arith}
use borrow.Author.Tests.{leb-true}
use Rattle.acceptance.specs.Handed.{accepted}
use Rattle.epoch_turns.specs.Epoch.{registry_known, turn_known, allowance_known, turn_over, turn_late, turn_done}
use Rattle.epoch_turns.proofs.turn_accepted.Goals as goal

pub invariant_of-sound : goal.invariant_of-sound
invariant_of-sound c = record { sound = (accepted _ _ _ c.requires).settings }

pub get_activation_exit_churn_limit-allowance-requires : goal.get_activation_exit_churn_limit-allowance-requires
get_activation_exit_churn_limit-allowance-requires c = record { registry = registry_known _ _ _ c.requires }

pub turn_fits-requires : goal.turn_fits-requires
turn_fits-requires c =
    let a = c.args in
    record {
      ready = turn_known _ _ c.requires;
      allowance_ready = allowance_known _ _ _ c.requires;
      allowance_is = λ ps.
          c.get_activation_exit_churn_limit-allowance.ensures a.identities.now a.deposits.now ps a.consolidations.now;
    }

pub returns-then-not-turn_fits : goal.returns-then-not-turn_fits
returns-then-not-turn_fits c =
    turn_over _ _ _ c.requires (sym (c.turn_fits.ensures c.args.partials.now) ∙ c.if-not-turn_fits.true)

pub returns-then-scalars-ge-BOUND : goal.returns-then-scalars-ge-BOUND
returns-then-scalars-ge-BOUND c =
    turn_late _ _ _ c.requires (sym (c.turn_fits.ensures c.args.partials.now) ∙ c.if-not-turn_fits.false)
    c.if-scalars-ge-BOUND.true

pub turn-after-requires : goal.turn-after-requires
turn-after-requires c =
    let a = c.args in
    let h = accepted _ _ _ c.requires in
    record {
      room = h.room;
      books_are_sound = h.books;
      allowance_is_limit = c.get_activation_exit_churn_limit-allowance.ensures a.identities.now a.deposits.now
          a.partials.now a.consolidations.now;
      epoch_fits = omega (arith, c.if-scalars-ge-BOUND.false);
      queue_fits = leb-true _ _ (sym (c.turn_fits.ensures c.args.partials.now) ∙ c.if-not-turn_fits.false);
    }

pub returns : goal.returns
returns c =
    turn_done _ _ _ c.requires (sym (c.turn_fits.ensures c.args.partials.now) ∙ c.if-not-turn_fits.false)
    c.if-scalars-ge-BOUND.false c.turn-after.ensures
