use mathlib.Core.Path.{ap}
use mathlib.Core.List.{[]}
use native.Mathlib.Omega.{arith}
use Rattle.primitives.specs.declared.Scalars.{Scalars}
use Rattle.primitives.specs.Settings.{settings_of}
use Rattle.records.specs.Books.{tables}
use Rattle.pending_consolidations.proofs.ConsolidationStep.{switched_small, consolidated}
use Rattle.pending_consolidations.proofs.consolidate.Goals as goal

pub move_active_balance-requires : goal.move_active_balance-requires
move_active_balance-requires c =
    let a = c.args in
    let p = c.requires in
    let s = c.switch_to_compounding_validator-after in
    let n = ap (λ (r : Scalars). r.validators) (s.ensures.by_index_3 [] []) in
    record {
      known = (omega (arith, n, p.known), omega (arith, n, p.known));
      held = (omega (arith, n, p.held, s.auto), omega (arith, n, p.held, s.auto));
      balances_small = switched_small (settings_of a.settings) a.c.target_index.0 a.scalars s.result
          (tables a.identities.now a.validators.now a.deposits.now [] [])
          (tables s.new.identities s.new.validators s.new.deposits [] []) p.known.1 (p.held_small [] [])
          (s.ensures.by_index_2 [] []);
    }

pub returns-clause-stepped : goal.returns-clause-stepped
returns-clause-stepped c =
    let a = c.args in
    let s = c.switch_to_compounding_validator-after in
    λ ps cs. consolidated (settings_of a.settings) a.c a.scalars s.result
    (tables a.identities.now a.validators.now a.deposits.now ps cs)
    (tables s.new.identities s.new.validators s.new.deposits ps cs) _ (s.ensures.by_index_2 ps cs)
    (c.move_active_balance.ensures _ ps cs)
