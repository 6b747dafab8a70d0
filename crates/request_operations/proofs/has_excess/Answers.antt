use native.Mathlib.Omega.{arith}
use Rattle.rule_laws.specs.Accepted.{settings_sound}
use Rattle.request_operations.proofs.has_excess.Goals as goal

pub overflow_add-result : goal.overflow_add-result
overflow_add-result c =
    omega (arith, c.requires.pending_bound, (settings_sound _ c.args.sound.sound).min_activation_balance)
