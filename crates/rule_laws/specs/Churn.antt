-- Bounds of the churn limits and of the epoch assignment: no divisor is 0, and what is left is small.
use Rattle.std.specs.Prelude.{◌≡◌, refl, true, List, [], ◌∷◌, ℕ, zero, suc, ◌+◌, ◌-◌, ◌*◌, ◌/◌, ◌%◌, ◌^◌, ◌≤◌, ◌<◌, max}
use Rattle.std.specs.Prelude.{length, leb, ltb}
use Rattle.std.proofs.Common.{div-mul-le_self, div-le_self, mod-lt, div-add-mod', arith, ltb-true, leb-true}
use Rattle.lists.specs.Base.{when◌then◌else◌, total, every}
use Rattle.lists.specs.Laws.{by_test, both}
use Rattle.rules.specs.Types.{Settings, Validator, Books}
use Rattle.rules.specs.Helpers.{count, active_effective_balance, get_total_active_balance, get_balance_churn_limit}
use Rattle.rules.specs.Helpers.{get_activation_exit_churn_limit, get_consolidation_churn_limit, assign_epoch}
use Rattle.rules.specs.Acceptance.{effective_within}
use Rattle.rule_laws.specs.Accepted.{SoundSettings}

-- what is left after rounding down to a multiple of n is at least n
round_down : (x n : ℕ) → 0 < n → n ≤ x → n ≤ x - x % n
round_down x n h k = go (x / n) refl
  where
    go : (q : ℕ) → x / n ≡ q → n ≤ x - x % n
    go zero e = omega (arith, mod-lt x h, rw e at (div-add-mod' x n))
    go (suc q) e = omega (arith, rw e at (div-add-mod' x n))

-- the divisor of an exit's epoch assignment is not 0
pub activation_exit_churn_some : (S : Settings) (b : Books) → SoundSettings S → 0 < get_activation_exit_churn_limit S b
unfolding get_activation_exit_churn_limit get_balance_churn_limit
activation_exit_churn_some S b σ =
    let churn = max S.min_per_epoch_churn_limit_electra (get_total_active_balance S b / S.churn_limit_quotient) in
    let n : S.effective_balance_increment ≤ churn = omega (arith, σ.increment_churn) in
    let r = round_down churn S.effective_balance_increment σ.increment_some n in
    omega (arith, σ.increment_some, σ.max_churn_some, r)

pub activation_exit_churn_small : (S : Settings) (b : Books) → SoundSettings S
    → get_activation_exit_churn_limit S b ≤ 2 ^ 44
unfolding get_activation_exit_churn_limit
activation_exit_churn_small S b σ = omega (arith, σ.max_churn)

active_total : (epoch n : ℕ) (vs : List Validator) → every (λ v. leb v.effective_balance n) vs ≡ true → n ≤ 2 ^ 44
    → total (active_effective_balance epoch) vs ≤ length vs * 2 ^ 44
active_total epoch n [] p h = omega arith
active_total epoch n (v ∷ vs) p h =
    let s = both (leb v.effective_balance n) (every (λ w. leb w.effective_balance n) vs) p in
    let k : v.effective_balance ≤ n = leb-true v.effective_balance n s.0 in
    let a : active_effective_balance epoch v ≤ n = by_test (λ (x : ℕ). x ≤ n) _ (λ q. k) (λ q. omega arith) in
    omega (arith, active_total epoch n vs s.1 h)

-- effective balances of the registry add up to at most 2^60
pub active_total_small : (S : Settings) (b : Books) → SoundSettings S → count b ≤ S.validator_registry_limit
    → every (effective_within S) b.validators ≡ true
    → total (active_effective_balance b.epoch) b.validators ≤ 2 ^ 60
active_total_small S b σ c p =
    let m : S.validator_registry_limit ≤ 65536 = σ.registry_limit.most in
    let most = S.max_effective_balance_electra in
    omega (arith, active_total b.epoch most b.validators p σ.max_effective_balance)

pub balance_churn_small : (S : Settings) (b : Books) → SoundSettings S → count b ≤ S.validator_registry_limit
    → every (effective_within S) b.validators ≡ true → get_balance_churn_limit S b ≤ 2 ^ 60
unfolding get_balance_churn_limit get_total_active_balance
balance_churn_small S b σ c p =
    let active = total (active_effective_balance b.epoch) b.validators in
    let whole = max S.effective_balance_increment active in
    omega
    (arith, σ.increment, σ.min_churn, active_total_small S b σ c p, div-le_self whole S.churn_limit_quotient)

pub consolidation_churn_small : (S : Settings) (b : Books) → SoundSettings S → count b ≤ S.validator_registry_limit
    → every (effective_within S) b.validators ≡ true → get_consolidation_churn_limit S b ≤ 2 ^ 60
unfolding get_consolidation_churn_limit
consolidation_churn_small S b σ c p = omega (arith, balance_churn_small S b σ c p)

-- ---- the epoch assignment

-- what is left is no more than there was, or one epoch's churn
pub assigned_left : (left earliest_epoch activation_exit_epoch churn amount : ℕ)
    → (assign_epoch left earliest_epoch activation_exit_epoch churn amount).left ≤ max left churn
unfolding assign_epoch
assigned_left left earliest_epoch activation_exit_epoch churn amount =
    by_test
    (λ (n : ℕ). n + (when ltb n amount then (amount - n - 1) / churn + 1 else 0) * churn - amount ≤ max left churn) _
    (λ e. rest churn (omega arith))
    (λ e. rest left (omega arith))
  where
    rest : (n : ℕ) → n ≤ max left churn
        → n + (when ltb n amount then (amount - n - 1) / churn + 1 else 0) * churn - amount ≤ max left churn
    rest n h = by_test (λ (k : ℕ). n + k * churn - amount ≤ max left churn) (ltb n amount)
        (λ e. omega (arith, ltb-true n amount e, div-mul-le_self (amount - n - 1) churn))
        (λ e. omega arith)

-- each Gwei costs at most one epoch
pub assigned_epoch : (left earliest_epoch activation_exit_epoch churn amount : ℕ)
    → (assign_epoch left earliest_epoch activation_exit_epoch churn amount).epoch
    ≤ max earliest_epoch activation_exit_epoch + amount
unfolding assign_epoch
assigned_epoch left earliest_epoch activation_exit_epoch churn amount =
    let start = max earliest_epoch activation_exit_epoch in
    by_test (λ (n : ℕ). start + (when ltb n amount then (amount - n - 1) / churn + 1 else 0) ≤ start + amount)
    (ltb earliest_epoch start)
    (λ e. rest churn)
    (λ e. rest left)
  where
    rest : (n : ℕ)
        → max earliest_epoch activation_exit_epoch + (when ltb n amount then (amount - n - 1) / churn + 1 else 0)
        ≤ max earliest_epoch activation_exit_epoch + amount
    rest n =
        let start = max earliest_epoch activation_exit_epoch in
        by_test (λ (k : ℕ). start + k ≤ start + amount) (ltb n amount)
        (λ e. omega (arith, ltb-true n amount e, div-le_self (amount - n - 1) churn))
        (λ e. omega arith)
