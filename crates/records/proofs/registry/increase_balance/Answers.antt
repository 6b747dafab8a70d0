use mathlib.Core.Path.{ap}
use Prim.Native.Nat.{◌+◌}
use native.Mathlib.Omega.{arith}
use Rattle.rules.specs.Update.{with_balance}
use Rattle.records.specs.Layout.{validator_at}
use Rattle.records.specs.Stores.{balance_stored}
use Rattle.records.proofs.registry.increase_balance.Goals as goal

pub returns : goal.returns
returns c =
    let a = c.args in
    rw c.set_word.ensures
    (balance_stored (omega arith) _ (λ ids.
    ap (λ x. with_balance (x + a.delta.0) (validator_at ids a.validators.now a.i.0))
    c.word_at.ensures))
