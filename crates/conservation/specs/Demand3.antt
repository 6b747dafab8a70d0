-- Demand 3: one claim about every list of calls, refused ones included, each on the books that the last one left. The
-- books reached and every term are given by the definitions of `rules` from the opening books and the calls alone.
use Rattle.std.specs.Prelude.{◌≡◌, List, [], ◌∷◌, ◌++◌, ◌+◌, ◌≤◌}
use Rattle.rules.specs.Types.{Settings, Books}
use Rattle.rules.specs.Acceptance.{held, deposit_amounts}
use Rattle.rules.specs.Calls.{Call, run}
use Rattle.rules.specs.Counting.{counted}

pub record Demand3 (S : Settings) (b : Books) (cs : List Call) : Type 0 where
  -- balances plus waiting deposits are the opening sum, plus what was taken in, less what was taken out
  pub sums : held (run S b cs) + (counted S b cs).taken_out ≡ held b + (counted S b cs).taken_in
  -- the deposits credited, then those still waiting, are the opening queue, then all queued since, entry by entry
  pub order : (counted S b cs).credited ++ (run S b cs).pending_balance_deposits
      ≡ b.pending_balance_deposits ++ (counted S b cs).queued
  -- the Gwei credited never exceed the opening carry plus the allowances
  pub spent : deposit_amounts (counted S b cs).credited
      ≤ b.deposit_balance_to_consume + (counted S b cs).allowance
