use mathlib.Core.Path.{refl}
use native.Mathlib.Omega.{arith}
use Rattle.rule_laws.specs.Accepted.{settings_sound}
use Rattle.records.specs.Books.{books_of}
use Rattle.helpers.proofs.exits.compute_activation_exit_epoch.Goals as goal

pub overflow_add-result-2 : goal.overflow_add-result-2
overflow_add-result-2 c = omega (arith, (settings_sound _ c.args.sound.sound).lookahead)

pub returns : goal.returns
unfolding books_of
returns c = λ t. refl
