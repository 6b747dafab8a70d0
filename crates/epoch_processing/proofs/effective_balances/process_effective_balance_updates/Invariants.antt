use Rattle.primitives.specs.Settings.{settings_of}
use Rattle.epoch_processing.proofs.UpdateStep.{Updating}
use Rattle.epoch_processing.proofs.effective_balances.process_effective_balance_updates.Given as goal

abbrev pub invariant-loop-i : goal.invariant-loop-i
invariant-loop-i l =
    Updating (settings_of l.sound.settings) l.scalars.validators l.identities l.initial.validators l.validators l.i
