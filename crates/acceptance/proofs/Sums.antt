-- The sum of a chain over a range.
use Rattle.std.specs.Prelude.{◌≡◌, ℕ, zero, suc, ◌+◌, ◌≤◌, ◌<◌, List, [], ◌∷◌, length, get_or}
use Rattle.std.specs.List.{fold}
use Rattle.std.proofs.Common.{arith, suc-le-suc, le_of_suc-le-suc}
use Rattle.lists.specs.Base.{total}
use Rattle.tables.specs.Rows.{rows}

-- the numbers xs are the first of those of a table
pub sum_first : {A : Type 0} (w : A → ℕ) (g : ℕ → A) (n : ℕ) (xs : List ℕ) (from : ℕ) → length xs ≤ n
    → ((k : ℕ) → k < length xs → get_or xs k 0 ≡ w (g k))
    → fold (λ a x. a + x) from xs ≤ from + total w (rows n g)
unfolding rows
sum_first w g n [] from h e = omega arith
sum_first w g zero (x ∷ xs) from h e = let z : ⊥ = omega arith in absurd z
sum_first w g (suc n) (x ∷ xs) from h e =
    omega (
      arith,
      e 0 (omega arith),
      sum_first w (λ k. g (suc k)) n xs (from + x) (le_of_suc-le-suc h) (λ k p. e (suc k) (suc-le-suc p)),
    )

pub sum_all : {A : Type 0} (w : A → ℕ) (g : ℕ → A) (n : ℕ) (xs : List ℕ) (from : ℕ) → length xs ≡ n
    → ((k : ℕ) → k < length xs → get_or xs k 0 ≡ w (g k))
    → fold (λ a x. a + x) from xs ≡ from + total w (rows n g)
unfolding rows
sum_all w g zero [] from h e = omega arith
sum_all w g (suc n) [] from h e = let z : ⊥ = omega arith in absurd z
sum_all w g zero (x ∷ xs) from h e = let z : ⊥ = omega arith in absurd z
sum_all w g (suc n) (x ∷ xs) from h e =
    omega (
      arith,
      e 0 (omega arith),
      sum_all w (λ k. g (suc k)) n xs (from + x) (omega arith) (λ k p. e (suc k) (suc-le-suc p)),
    )
