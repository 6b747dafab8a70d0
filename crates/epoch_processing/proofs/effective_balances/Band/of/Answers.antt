use Prim.Native.Nat.{◌≤◌, ◌^◌}
use native.Mathlib.Omega.{arith}
use Rattle.rule_laws.specs.Accepted.{settings_sound}
use Rattle.primitives.specs.Settings.{settings_of}
use Rattle.epoch_processing.specs.Updates.{downward_threshold, upward_threshold}
use Rattle.epoch_processing.proofs.UpdateStep.{downward_small, upward_small}
use Rattle.epoch_processing.proofs.effective_balances.Band.of.Goals as goal
use Rattle.epoch_processing.proofs.effective_balances.Band.of.Goals.{Start}

small : (c : Start)
    → (downward_threshold (settings_of c.args.sound.settings) ≤ 2 ^ 60)
    × (upward_threshold (settings_of c.args.sound.settings) ≤ 2 ^ 60)
small c =
    let S = settings_of c.args.sound.settings in
    let sound = settings_sound S c.args.sound.sound in
    (downward_small S sound, upward_small S sound)

pub nonzero_div-increment : goal.nonzero_div-increment
nonzero_div-increment c =
    omega (arith, (settings_sound (settings_of c.args.sound.settings) c.args.sound.sound).hysteresis_quotient_some)

pub overflow_mul-result : goal.overflow_mul-result
overflow_mul-result c = omega (arith, small (goal.at.overflow_mul-result c).Start)

pub overflow_mul-result-2 : goal.overflow_mul-result-2
overflow_mul-result-2 c = omega (arith, small (goal.at.overflow_mul-result-2 c).Start)
