use mathlib.Core.Path.{refl}
use native.Mathlib.Omega.{arith}
use Rattle.records.specs.Stores.{effective_balance_stored}
use Rattle.records.proofs.registry.set_effective_balance.Goals as goal

pub returns : goal.returns
returns c =
    rw c.set_word.ensures
    (effective_balance_stored (omega arith) c.args.balance.0 (λ ids. refl))
