-- The sum so far and what is left are the whole, and what was seen tells of the validators so far.
use Rattle.std.proofs.Common.{◌≡◌, ℕ, ◌+◌, ◌*◌, ◌%◌, ◌^◌, ◌≤◌, drop}
use Rattle.lists.specs.Base.{total}
use Rattle.tables.specs.Rows.{rows}
use Rattle.records.specs.Layout.{balance_at}
use Rattle.acceptance.specs.Quick.{Seen}
use Rattle.acceptance.proofs.quick.small_sum.Given as goal

abbrev pub low : ℕ → ℕ
low x = x % 2 ^ 46

abbrev pub invariant-loop-i : goal.invariant-loop-i
invariant-loop-i l =
    (l.sum ≤ l.i * 2 ^ 46)
    × (l.sum + total low (drop l.i (rows l.n (balance_at l.validators)))
    ≡ total low (rows l.n (balance_at l.validators)))
    × Seen l.most.0 l.validators l.flags l.bits l.balances l.i
