use mathlib.Core.Path.{refl}
use native.Mathlib.Omega.{arith}
use Rattle.rule_laws.specs.Accepted.{settings_sound}
use Rattle.primitives.specs.Settings.{settings_of}
use Rattle.epoch_processing.proofs.UpdateStep.{updating_more, updating_end}
use Rattle.epoch_processing.proofs.UpdateStep.{same_balance, same_effective, downward_small, upward_small}
use Rattle.epoch_processing.proofs.effective_balances.process_effective_balance_updates.Goals as goal

pub update_effective_balance-requires : goal.update_effective_balance-requires
update_effective_balance-requires c =
    let S = settings_of c.args.sound.settings in
    let sound = settings_sound S c.args.sound.sound in
    let r = c.requires in
    let l = c.loop-i in
    let more = c.loop-i-test.true in
    let band = c.of-band.ensures in
    record {
      held = (omega (arith, r.identities), omega (arith, r.validators, l.invariant.size));
      thresholds = (band.0, band.1, sound.increment_some);
      sums_fit = (
        omega (arith, band, same_balance l.invariant more, r.balances l.i more, downward_small S sound),
        omega (
          arith,
          band,
          same_effective l.invariant more,
          r.effective l.i more,
          upward_small S sound,
          sound.max_effective_balance,
        ),
      );
    }

pub loop-i-preserved : goal.loop-i-preserved
loop-i-preserved c =
    let u = c.update_effective_balance in
    updating_more c.loop-i.invariant
    c.loop-i-test.true _ u.ensures u.auto.validators

pub returns : goal.returns
returns c =
    let a = c.args in
    let l = c.loop-i in
    record {
      stepped = updating_end (settings_of a.sound.settings) a.scalars a.identities.now a.validators.now _ l.i
          c.loop-i-test.false l.invariant;
      scalars_kept = refl;
    }
