use Rattle.std.proofs.Common.{◌≡◌, ℕ, ◌+◌, ◌*◌, ◌/◌, ◌%◌, ◌<◌, get_or, arith}
use Rattle.slices.specs.Front.{front_none, front_part}
use Rattle.slices.specs.Withdrawals.{address_byte}
use Rattle.slices.proofs.withdrawals.store_addresses.Goals as goal

pub loop-i-init : goal.loop-i-init
loop-i-init c = front_none

pub loop-i-preserved : goal.loop-i-preserved
loop-i-preserved c =
    let list = c.args.list in
    let i = c.loop-i.i in
    let copied = c.copy_from_slice.ensures in
    let onward : 20 * i + 20 ≡ 20 * (i + 1) = omega arith in
    let here : (k : ℕ) → k < 20 → get_or c.copy_from_slice.new.self k 0 ≡ address_byte list (20 * i + k) =
    λ k h.
    let d : (20 * i + k) / 20 ≡ i = omega arith in
    let m : (20 * i + k) % 20 ≡ k = omega arith in
    rw (copied.after, d, m) in
    rw (← onward) (front_part _ _ (omega arith) (omega arith) copied.len (λ k h. here k (omega arith))
    c.loop-i.invariant)
