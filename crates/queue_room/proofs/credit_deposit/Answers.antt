use native.Mathlib.Omega.{arith}
use Rattle.queue_room.specs.Balances.{amount_at_most}
use Rattle.queue_room.proofs.credit_deposit.Goals as goal

pub overflow_add-balances : goal.overflow_add-balances
overflow_add-balances c =
    let amount = c.args.d.amount.0 in
    omega (arith, c.switchable_amount-more.ensures, amount_at_most c.prefix_at-prefix.result amount)
