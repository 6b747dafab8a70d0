use mathlib.Core.Path.{refl}
use native.Mathlib.Omega.{arith}
use Rattle.records.specs.Stores.{exit_stored}
use Rattle.records.proofs.registry.set_exit.Goals as goal

pub returns : goal.returns
returns c =
    let a = c.args in
    rw (c.set_word-2.ensures, c.set_word.ensures)
    (exit_stored (omega arith) a.exit.0 a.withdrawable.0 (λ ids. refl))
