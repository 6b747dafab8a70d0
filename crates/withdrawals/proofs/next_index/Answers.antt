use mathlib.Core.Path.{◌≡◌, ap, ◌∙◌}
use Prim.Native.Nat.{◌-◌, ◌^◌, ◌<◌, ◌+◌}
use native.Mathlib.Omega.{arith}
use lib.ListN.{length, get_or}
use borrow.Author.Rules.{rules}
use borrow.Author.Tests.{ltb-true}
use Rattle.rules.specs.BlockProcessing.{next_index}
use Rattle.records.specs.Books.{books_of}
use Rattle.expected_withdrawals.specs.declared.Withdrawal.{Withdrawal}
use Rattle.expected_withdrawals.specs.Expected.{handed_list}
use Rattle.expected_withdrawals.specs.Handed.{past}
use Rattle.withdrawals.specs.Payment.{index_below}
use Rattle.withdrawals.specs.Laws.{handed_passes, index_kept, index_behind}
use Rattle.withdrawals.proofs.Fronts.{front_empty, front_last}
use Rattle.withdrawals.proofs.next_index.Goals as goal

pub returns-in_default : goal.returns-in_default
returns-in_default c =
    let a = c.args in
    let l : length a.list ≡ 16 = search rules in
    let e = front_empty a.list a.n (omega (arith, c.requires.n_bound)) c.in_default.ensures.item.3 in
    λ t. index_kept a.scalars a.list t ∙ ap (λ m. next_index (books_of a.scalars t) (handed_list a.list m)) e

pub overflow_add-result : goal.overflow_add-result
overflow_add-result c =
    let a = c.args in
    let i = c.in-Some.ensures.item.3 in
    let l : length a.list ≡ 16 = search rules in
    let last = front_last a.list a.n (omega (arith, c.requires.n_bound)) i.0 (i.1 past) in
    let h : (get_or a.list (a.n - 1) past).index.0 < 2 ^ 63 = ltb-true _ _
    (handed_passes a.list a.n (a.n - 1) (index_below (2 ^ 63))
    (omega (arith, last.0)) (omega (arith, last.0, c.requires.n_bound)) c.requires.n_value) in
    omega (arith, ap (λ (w : Withdrawal). w.index.0) last.1)

pub returns : goal.returns
returns c =
    let a = c.args in
    let i = c.in-Some.ensures.item.3 in
    let l : length a.list ≡ 16 = search rules in
    let last = front_last a.list a.n (omega (arith, c.requires.n_bound)) i.0 (i.1 past) in
    λ t. ap (λ (w : Withdrawal). w.index.0 + 1) last.1
    ∙ index_behind a.scalars a.list t a.n (omega (arith, c.requires.n_bound)) last.0
