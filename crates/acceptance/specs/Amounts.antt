-- A validator's balance where it passes its tests, and the tested sum of balances, whatever the identities are.
use Rattle.std.specs.Bool.{then_some}
use Rattle.std.specs.Prelude.{◌≡◌, ℕ, Bool, true, false, MatchOption, List, [], ◌&&◌, zero, suc, refl}
use Rattle.std.proofs.Common.{sym, ap₂}
use Rattle.lists.specs.Base.{every}
use Rattle.tables.specs.Rows.{rows}
use Rattle.tables.specs.Totals.{total_ext}
use Rattle.primitives.specs.declared.Gwei.{Gwei}
use Rattle.records.specs.Layout.{validator_at}
use Rattle.acceptance.specs.Tests.{validator_within, tested_sum}

pub given_then : (t : Bool) (x : Gwei) {u : Bool} {n : ℕ} → t ≡ u → x.0 ≡ n
    → MatchOption (then_some t x) (u ≡ false) (λ a. (u ≡ true) × (a.0 ≡ n))
given_then true x p q = (sym p, q)
given_then false x p q = sym p

every_ext : {A : Type 0} (t : A → Bool) (n : ℕ) (g h : ℕ → A) → ((i : ℕ) → t (g i) ≡ t (h i))
    → every t (rows n g) ≡ every t (rows n h)
unfolding rows
every_ext t zero g h e = refl
every_ext t (suc n) g h e = ap₂ ◌&&◌ (e 0) (every_ext t n (λ k. g (suc k)) (λ k. h (suc k)) (λ i. e (suc i)))

pub balances_ext : (most : ℕ) (ws : List ℕ) (n : ℕ) (ids : List ℕ)
    → tested_sum (validator_within most) (λ v. v.balance) 0 (rows n (validator_at [] ws))
    ≡ tested_sum (validator_within most) (λ v. v.balance) 0 (rows n (validator_at ids ws))
unfolding tested_sum
balances_ext most ws n ids =
    let g = validator_at [] ws in
    let h = validator_at ids ws in
    let every_same = every_ext (validator_within most) n g h (λ i. refl) in
    let total_same = total_ext (λ v. v.balance) (λ v. v.balance) n g h (λ i p. refl) in
    rw (every_same, total_same)
