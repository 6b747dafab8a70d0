-- A table as a list of records: `rows n g` is g 0, g 1, .., g (n - 1), where `g i` decodes row i.
use Rattle.std.specs.Prelude.{◌≡◌, ◌≢◌, length, get_or, drop}
use Rattle.std.proofs.Math.Path.{refl, ap, ap₂}
use Rattle.std.proofs.Common.{sym, ◌∙◌, le_of_suc-le-suc, not-suc-le-zero, add-one, drop_of_length-le, drop-cons}
use mathlib.Core.List.{List, [], ◌∷◌, ◌++◌}
use Prim.Native.Nat.{ℕ, zero, suc, ◌+◌, ◌-◌, ◌≤◌, ◌<◌, suc-le-suc}
use Rattle.std.proofs.Math.Nat.{sub-zero, suc-sub-suc}
use native.Mathlib.Omega.{arith}
use Rattle.lists.specs.Base.{adjust}

module _ {A : Type 0} where
  unfoldable pub rows : ℕ → (ℕ → A) → List A
  rows zero g = []
  rows (suc n) g = g 0 ∷ rows n (λ k. g (suc k))

  pub length_rows : (n : ℕ) (g : ℕ → A) → length (rows n g) ≡ n
  unfolding rows
  length_rows zero g = refl
  length_rows (suc n) g = ap suc (length_rows n (λ k. g (suc k)))

  pub get_d_rows : (n : ℕ) (g : ℕ → A) (i : ℕ) (d : A) → i < n → get_or (rows n g) i d ≡ g i
  unfolding rows
  get_d_rows zero g i d h = absurd (not-suc-le-zero h)
  get_d_rows (suc n) g zero d h = refl
  get_d_rows (suc n) g (suc i) d h = get_d_rows n (λ k. g (suc k)) i d (le_of_suc-le-suc h)

  -- two tables with the same records
  pub rows_ext : (n : ℕ) (g h : ℕ → A) → ((i : ℕ) → i < n → g i ≡ h i) → rows n g ≡ rows n h
  unfolding rows
  rows_ext zero g h e = refl
  rows_ext (suc n) g h e =
      ap₂ ◌∷◌ (e 0 (omega arith))
      (rows_ext n (λ k. g (suc k)) (λ k. h (suc k)) (λ i p. e (suc i) (suc-le-suc p)))

  -- the table without its first m records
  pub drop_rows : (m n : ℕ) (g : ℕ → A) → m ≤ n → drop m (rows n g) ≡ rows (n - m) (λ k. g (m + k))
  unfolding rows
  drop_rows zero n g h = rw sub-zero (rows_ext n g (λ k. g (0 + k)) (λ i p. ap g (omega arith)))
  drop_rows (suc m) zero g h = absurd (not-suc-le-zero h)
  drop_rows (suc m) (suc n) g h =
      rw suc-sub-suc
      (drop_rows m n (λ k. g (suc k)) (le_of_suc-le-suc h)
      ∙ rows_ext (n - m) (λ k. g (suc (m + k))) (λ k. g (suc m + k)) (λ i p. ap g (omega arith)))

  -- a table whose records stand m places further on in another
  pub rows_drop : (m n : ℕ) (g h : ℕ → A) → ((i : ℕ) → i < n → h i ≡ g (m + i)) → rows n h ≡ drop m (rows (m + n) g)
  rows_drop m n g h e =
      let k : m + n - m ≡ n = omega arith in
      rows_ext n h (λ i. g (m + i)) e ∙ sym (rw k at (drop_rows m (m + n) g (omega arith)))

  -- a table that differs from another in record i alone
  pub rows_adjust : (n : ℕ) (g h : ℕ → A) (i : ℕ) (f : A → A)
      → ((j : ℕ) → j < n → j ≢ i → h j ≡ g j) → (i < n → h i ≡ f (g i)) → rows n h ≡ adjust i f (rows n g)
  unfolding rows
  rows_adjust zero g h i f other same = refl
  rows_adjust (suc n) g h zero f other same =
      ap₂ ◌∷◌ (same (omega arith))
      (rows_ext n (λ k. h (suc k)) (λ k. g (suc k)) (λ j p. other (suc j) (suc-le-suc p) (omega arith)))
  rows_adjust (suc n) g h (suc i) f other same =
      ap₂ ◌∷◌ (other 0 (omega arith) (omega arith))
      (rows_adjust n (λ k. g (suc k)) (λ k. h (suc k)) i f
      (λ j p q. other (suc j) (suc-le-suc p) (omega arith)) (λ p. same (suc-le-suc p)))

  pub rows_snoc : (n : ℕ) (g : ℕ → A) → rows (suc n) g ≡ rows n g ++ (g n ∷ [])
  unfolding rows
  rows_snoc zero g = refl
  rows_snoc (suc n) g = ap (λ l. g 0 ∷ l) (rows_snoc n (λ k. g (suc k)))

  -- one record more: a table that agrees below n and has x at n
  pub rows_push : (n : ℕ) (g h : ℕ → A) (x : A)
      → ((j : ℕ) → j < n → h j ≡ g j) → h n ≡ x → rows (n + 1) h ≡ rows n g ++ (x ∷ [])
  rows_push n g h x below here =
      rw add-one (rows_snoc n h ∙ ap₂ (λ l y. l ++ (y ∷ [])) (rows_ext n h g below) here)

  -- a list, element by element
  pub rows_getD : (xs : List A) (n : ℕ) (d : A) → length xs ≡ n → rows n (λ k. get_or xs k d) ≡ xs
  unfolding rows
  rows_getD [] zero d e = refl
  rows_getD [] (suc n) d e = let z : ⊥ = omega arith in absurd z
  rows_getD (x ∷ xs) zero d e = let z : ⊥ = omega arith in absurd z
  rows_getD (x ∷ xs) (suc n) d e = ap {B = List A} (λ ys. x ∷ ys) (rows_getD xs n d (omega arith))

  -- what a loop over a table has left at record i, and at the end
  pub drop_rows_at : (n : ℕ) (g : ℕ → A) (i : ℕ) → i < n → drop i (rows n g) ≡ g i ∷ drop (i + 1) (rows n g)
  drop_rows_at n g i h =
      let q : i < length (rows n g) = rw length_rows h in
      rw add-one (drop-cons (rows n g) i (g i) q ∙ ap (λ x. x ∷ drop (suc i) (rows n g)) (get_d_rows n g i (g i) h))

  pub drop_rows_end : (n : ℕ) (g : ℕ → A) (i : ℕ) → n ≤ i → drop i (rows n g) ≡ []
  drop_rows_end n g i h = drop_of_length-le (rows n g) {i = i} (rw length_rows h)
