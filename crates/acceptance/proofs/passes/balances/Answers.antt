use Rattle.std.proofs.Common.{rules, ◌≡◌, ℕ, ◌≤◌, ◌<◌, length, get_or, arith}
use Rattle.std.proofs.iter.runs.Sources.{ranges}
use Rattle.records.specs.Layout.{balance_at}
use Rattle.acceptance.proofs.Sums.{sum_first, sum_all}
use Rattle.acceptance.proofs.passes.balances.Goals as goal

pub sum-requires-clause-fits : goal.sum-requires-clause-fits
sum-requires-clause-fits c p t e =
    let of = balance_at c.args.validators.now in
    let size : length p.items ≤ c.args.n = search (rules, ranges) in
    let each : (k : ℕ) → k < length p.items → get_or p.items k 0 ≡ of k = search (rules, ranges) in
    omega (arith, sum_first (λ x. x) of c.args.n p.items 0 size each)

pub returns : goal.returns
returns c =
    let of = balance_at c.args.validators.now in
    let run = c.sum.ensures.runs tt in
    let size : length run.0.items ≡ c.args.n = search (rules, ranges) in
    let each : (k : ℕ) → k < length run.0.items → get_or run.0.items k 0 ≡ of k = search (rules, ranges) in
    omega (arith, sum_all (λ x. x) of c.args.n run.0.items 0 size each)
