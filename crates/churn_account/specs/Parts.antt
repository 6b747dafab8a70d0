-- The epoch assignment in the two parts that the code has.
use Rattle.std.specs.Prelude.{◌≡◌, ltb}
use Rattle.std.proofs.Math.Path.{refl}
use Rattle.std.proofs.Common.{sym, ap, ◌∙◌, mod-lt, suc-mul, mul_comm, add-one, lt-ltb, le-ltb}
use Prim.Native.Nat.{ℕ, ◌+◌, ◌-◌, ◌*◌, ◌/◌, ◌%◌, ◌≤◌, ◌<◌, max}
use Rattle.std.proofs.Math.Nat.{div-add-mod}
use native.Mathlib.Omega.{arith}
use Rattle.lists.specs.Base.{when◌then◌else◌}
use Rattle.rules.specs.Helpers as rule
use Rattle.rules.specs.Helpers.{assign_epoch}

-- where it starts: the later epoch, with a whole churn where the account is behind
unfoldable pub start_account : (left earliest_epoch activation_exit_epoch churn : ℕ) → rule.Assignment
start_account left earliest_epoch activation_exit_epoch churn =
    let start = max earliest_epoch activation_exit_epoch in
    record { left = when ltb earliest_epoch start then churn else left; epoch = start }

-- whole epochs whose churns pay for what the amount is above what is available
unfoldable pub additional_epochs : (available churn amount : ℕ) → ℕ
additional_epochs available churn amount =
    when ltb available amount then (amount - available - 1) / churn + 1 else 0

-- an assignment from its parts
abbrev pub assigned_from : rule.Assignment → (churn amount : ℕ) → rule.Assignment
assigned_from s churn amount =
    let additional = additional_epochs s.left churn amount in
    record { left = s.left + additional * churn - amount; epoch = s.epoch + additional }

module _ (left earliest_epoch activation_exit_epoch churn : ℕ) where
  pub start_behind : earliest_epoch < activation_exit_epoch
      → record { left = churn; epoch = activation_exit_epoch }
      ≡ start_account left earliest_epoch activation_exit_epoch churn
  unfolding start_account when◌then◌else◌
  start_behind h =
      let e : max earliest_epoch activation_exit_epoch ≡ activation_exit_epoch = omega arith in
      rw e (rw (lt-ltb earliest_epoch activation_exit_epoch h))

  pub start_kept : activation_exit_epoch ≤ earliest_epoch
      → record { left = left; epoch = earliest_epoch }
      ≡ start_account left earliest_epoch activation_exit_epoch churn
  unfolding start_account when◌then◌else◌
  start_kept h =
      let e : max earliest_epoch activation_exit_epoch ≡ earliest_epoch = omega arith in
      rw e (rw (le-ltb earliest_epoch earliest_epoch (omega arith)))

  pub assigned_by_parts : (amount : ℕ)
      → assign_epoch left earliest_epoch activation_exit_epoch churn amount
      ≡ assigned_from (start_account left earliest_epoch activation_exit_epoch churn) churn amount
  unfolding assign_epoch start_account additional_epochs
  assigned_by_parts amount = refl

  -- the same, of the parts as two functions gave them
  pub assigned : (amount start_left start_epoch epochs rest : ℕ)
      → record { left = start_left; epoch = start_epoch }
      ≡ start_account left earliest_epoch activation_exit_epoch churn
      → epochs ≡ additional_epochs start_left churn amount → rest ≡ start_left + epochs * churn - amount
      → record { left = rest; epoch = start_epoch + epochs }
      ≡ assign_epoch left earliest_epoch activation_exit_epoch churn amount
  assigned amount start_left start_epoch epochs rest start some left_then =
      rw (left_then, some)
      (ap (λ (s : rule.Assignment). assigned_from s churn amount) start ∙ sym (assigned_by_parts amount))

module _ (available churn amount : ℕ) where
  pub additional_some : available < amount
      → (amount - available - 1) / churn + 1 ≡ additional_epochs available churn amount
  unfolding additional_epochs when◌then◌else◌
  additional_some h = rw (lt-ltb available amount h)

  pub additional_none : amount ≤ available → 0 ≡ additional_epochs available churn amount
  unfolding additional_epochs when◌then◌else◌
  additional_none h = rw (le-ltb available amount h)

  -- what is left of the last epoch's churn, by a remainder
  pub left_by_remainder : 0 < churn → available < amount
      → churn - 1 - (amount - available - 1) % churn
      ≡ available + ((amount - available - 1) / churn + 1) * churn - amount
  left_by_remainder some h =
      let over = amount - available - 1 in
      let q = over / churn in
      let one_more : (q + 1) * churn ≡ churn * q + churn =
      ap (λ (k : ℕ). k * churn) (add-one q) ∙ suc-mul q churn ∙ ap (λ (k : ℕ). k + churn) (mul_comm q churn) in
      omega (arith, div-add-mod over churn, mod-lt over some, one_more)
