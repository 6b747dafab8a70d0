use mathlib.Core.Path.{refl}
use Rattle.primitives.specs.Settings.{settings_of}
use Rattle.helpers.specs.Assigned.{plain_assignment}
use Rattle.helpers.specs.Exits.{exit_stepped}
use Rattle.helpers.proofs.exits.begin_exit.Goals as goal

pub returns : goal.returns
returns c =
    let a = c.args in
    exit_stepped (settings_of a.settings) a.i.0 (plain_assignment a.a) a.scalars
    _ a.validators.now _ c.requires.validators_in.0
    (rw c.withdrawable_epoch-withdrawable.ensures
    at c.set_exit.ensures)
    refl
