-- The number of a result's size, where its epochs are within the bound.
use mathlib.Core.Path.{◌≡◌, sym, ap, ◌∙◌}
use mathlib.Core.Bool.{Bool, true, ◌&&◌}
use Prim.Native.Nat.{ℕ, ◌≤◌}
use borrow.Author.Tests.{leb-true}
use lib.Dec.{leb}
use Rattle.lists.specs.Laws.{both}
use Rattle.result_sizes.specs.Size.{size_number}
use Rattle.call_answers.specs.Tests.{size_first}

-- the sums were judged as s
pub sums_known : (within : Bool) {sums s : Bool} {x : ℕ} → x ≡ size_number within sums true → sums ≡ s
    → x ≡ size_number within s true
sums_known within e f = e ∙ ap (λ (t : Bool). size_number within t true) f

-- where it is 0, the limit is kept
pub limit_kept : (n most : ℕ) (sums : Bool) {x : ℕ} → x ≡ size_number (leb n most) sums true → x ≡ 0 → n ≤ most
limit_kept n most sums e z = leb-true n most (size_first (leb n most) sums true (sym e ∙ z))

-- and both limits are
pub limits_kept : (n most m most_queued : ℕ) (sums : Bool) {x : ℕ}
    → x ≡ size_number (leb n most && leb m most_queued) sums true → x ≡ 0 → (n ≤ most) × (m ≤ most_queued)
limits_kept n most m most_queued sums e z =
    let p =
    both (leb n most) (leb m most_queued)
    (size_first (leb n most && leb m most_queued) sums true (sym e ∙ z)) in
    (leb-true n most p.0, leb-true m most_queued p.1)
