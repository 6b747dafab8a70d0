use mathlib.Core.Path.{◌≡◌}
use Prim.Native.Nat.{◌-◌, ◌<◌}
use native.Mathlib.Omega.{arith}
use lib.ListN.{length, get_or}
use borrow.Author.Tests.{ltb-true}
use Rattle.rule_laws.specs.Withdrawals.{withdrawal_in}
use Rattle.expected_withdrawals.specs.Handed.{past}
use Rattle.withdrawals.specs.Laws.{handed_passes, cursor_behind, cursor_on}
use borrow.Author.Rules.{rules}
use Rattle.withdrawals.proofs.next_validator_index.Goals as goal

pub overflow_add-result : goal.overflow_add-result
overflow_add-result c =
    let a = c.args in
    let l : length a.list ≡ 16 = search rules in
    let r = c.requires in
    let full : a.n ≡ a.settings.max_withdrawals_per_payload = c.if-n-settings.true in
    let p : 0 < a.n = omega (arith, r.payload) in
    let h : (get_or a.list (a.n - 1) past).validator_index.0 < a.scalars.validators = ltb-true _ _
    (handed_passes a.list a.n (a.n - 1) (withdrawal_in a.scalars.validators)
    (omega arith) (omega (arith, r.payload)) r.known) in
    omega (arith, r.registry)

pub returns-then-n-settings : goal.returns-then-n-settings
returns-then-n-settings c =
    let a = c.args in
    let l : length a.list ≡ 16 = search rules in
    let r = c.requires in
    let full : a.n ≡ a.settings.max_withdrawals_per_payload = c.if-n-settings.true in
    λ t. cursor_behind a.scalars a.list t a.n (omega (arith, r.payload)) a.settings (omega (arith, r.payload)) full

pub returns : goal.returns
returns c =
    let a = c.args in
    let l : length a.list ≡ 16 = search rules in
    λ t. cursor_on a.scalars a.list t a.n (omega (arith, c.requires.payload)) a.settings c.if-n-settings.false
