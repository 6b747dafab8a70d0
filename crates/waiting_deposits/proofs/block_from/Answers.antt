use mathlib.Core.Path.{refl, ◌∙◌}
use Prim.Native.Nat.{◌<◌}
use native.Mathlib.Omega.{arith}
use lib.ListN.{length-set}
use Rattle.waiting_deposits.specs.Blocks.{reading_none, reading_more}
use Rattle.waiting_deposits.proofs.block_from.Goals as goal

pub loop-k-init : goal.loop-k-init
loop-k-init c = reading_none _ _ refl

pub loop-k-preserved : goal.loop-k-preserved
loop-k-preserved c =
    let within : c.loop-k.k < 16 = omega (arith, c.min-count.ensures) in
    let l = c.loop-k in
    let size = length-set l.list l.k c.entry_at.result ∙ l.invariant.size in
    reading_more l.invariant within c.entry_at.result c.entry_at.ensures size
