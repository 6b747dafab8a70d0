-- Sums over a table.
use Rattle.std.specs.Prelude.{◌≡◌, refl, drop}
use Rattle.std.proofs.Common.{ap}
use Prim.Native.Nat.{ℕ, zero, suc, ◌+◌, ◌*◌, ◌≤◌, ◌<◌, suc-le-suc}
use native.Mathlib.Omega.{arith}
use Rattle.lists.specs.Base.{total}
use Rattle.tables.specs.Rows.{rows, drop_rows_at, drop_rows_end}

module _ {A : Type 0} (w : A → ℕ) where
  -- a loop that adds up a table, with the invariant `sum + total w (drop i T) ≡ total w T`
  pub total_step : (n : ℕ) (g : ℕ → A) (i : ℕ) → i < n
      → total w (drop i (rows n g)) ≡ w (g i) + total w (drop (i + 1) (rows n g))
  total_step n g i h = ap (total w) (drop_rows_at n g i h)

  pub total_end : (n : ℕ) (g : ℕ → A) (i : ℕ) → n ≤ i → total w (drop i (rows n g)) ≡ 0
  total_end n g i h = ap (total w) (drop_rows_end n g i h)

  -- a sum of n numbers, each at most b
  pub total_bound : (b n : ℕ) (g : ℕ → A) → ((i : ℕ) → i < n → w (g i) ≤ b) → total w (rows n g) ≤ n * b
  unfolding rows
  total_bound b zero g h = omega arith
  total_bound b (suc n) g h =
      omega (arith, h 0 (omega arith), total_bound b n (λ k. g (suc k)) (λ i p. h (suc i) (suc-le-suc p)))

  -- one record's number is at most the sum
  pub total_at_most : (n : ℕ) (g : ℕ → A) (i : ℕ) → i < n → w (g i) ≤ total w (rows n g)
  unfolding rows
  total_at_most zero g i h = omega arith
  total_at_most (suc n) g zero h = omega arith
  total_at_most (suc n) g (suc i) h = omega (arith, total_at_most n (λ k. g (suc k)) i (omega arith))

-- two tables whose records count the same, one by one
pub total_ext : {A B : Type 0} (v : A → ℕ) (w : B → ℕ) (n : ℕ) (g : ℕ → A) (h : ℕ → B)
    → ((i : ℕ) → i < n → v (g i) ≡ w (h i)) → total v (rows n g) ≡ total w (rows n h)
unfolding rows
total_ext v w zero g h e = refl
total_ext v w (suc n) g h e =
    omega (
      arith,
      e 0 (omega arith),
      total_ext v w n (λ k. g (suc k)) (λ k. h (suc k)) (λ i p. e (suc i) (suc-le-suc p)),
    )
