use Rattle.std.proofs.Common.{◌≡◌, refl, [], ◌∷◌, ℕ, zero, suc, ◌+◌, ◌*◌, ◌/◌, ◌%◌, ◌<◌, get_or, arith}
use Rattle.expected_withdrawals.specs.declared.Withdrawal.{Withdrawal}
use Rattle.slices.specs.Front.{front_none, front_part}
use Rattle.slices.specs.Withdrawals.{record_of, record_number, part}
use Rattle.slices.proofs.withdrawals.store_records.Goals as goal

part_at : (w : Withdrawal) (k : ℕ) → k < 3
    → get_or (w.index.0 ∷ w.validator_index.0 ∷ w.amount.0 ∷ []) k 0 ≡ part w k
part_at w zero h = refl
part_at w (suc zero) h = refl
part_at w (suc (suc zero)) h = refl
part_at w (suc (suc (suc k))) h = absurd (omega arith)

pub loop-i-init : goal.loop-i-init
loop-i-init c = front_none

pub loop-i-preserved : goal.loop-i-preserved
loop-i-preserved c =
    let list = c.args.list in
    let i = c.loop-i.i in
    let copied = c.copy_from_slice.ensures in
    let onward : 3 * i + 3 ≡ 3 * (i + 1) = omega arith in
    let here : (k : ℕ) → k < 3 → get_or c.copy_from_slice.new.self k 0 ≡ record_number list (3 * i + k) =
    λ k h.
    let d : (3 * i + k) / 3 ≡ i = omega arith in
    let m : (3 * i + k) % 3 ≡ k = omega arith in
    rw (copied.after, d, m) (part_at (record_of list i) k h) in
    rw (← onward) (front_part _ _ (omega arith) (omega arith) copied.len (λ k h. here k (omega arith))
    c.loop-i.invariant)
