-- Demand 3 holds of every list of calls: what one call moves, and then all of them.
use Rattle.std.specs.Prelude.{List, [], ◌∷◌}
use Rattle.std.proofs.Common.{arith}
use Rattle.rules.specs.Types.{Settings, Books}
use Rattle.rules.specs.Calls.{Call, done, after, run}
use Rattle.rules.specs.Counting.{call_counts, counted}
use Rattle.conservation.specs.Proofs.Flow.{Flow, still, then_flow, choose}
use Rattle.conservation.specs.Proofs.Operations.{operation_flow}
use Rattle.conservation.specs.Proofs.Answered.{done_passed}
use Rattle.conservation.specs.Demand3.{Demand3}

-- one call
call_flow : (S : Settings) (b : Books) (c : Call) → Flow (call_counts S b c) b (after S b c)
unfolding after call_counts
call_flow S b c =
    choose (done S b c)
    (λ e. let p = done_passed S b c e in operation_flow S b c.operation p.books p.tests)
    (λ e. still b)

run_flow : (S : Settings) (b : Books) (cs : List Call) → Flow (counted S b cs) b (run S b cs)
run_flow S b [] = still b
run_flow S b (c ∷ cs) = then_flow (call_flow S b c) (run_flow S (after S b c) cs)

-- It asks nothing of settings and books: where they are not accepted, each call is refused and counts nothing.
pub demand_3 : (S : Settings) (b : Books) (cs : List Call) → Demand3 S b cs
demand_3 S b cs =
    let f = run_flow S b cs in
    record { sums = f.sums; order = f.order; spent = omega (arith, f.spent) }
