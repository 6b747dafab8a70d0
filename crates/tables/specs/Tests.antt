-- Tests of every record of a table.
use Rattle.std.specs.Prelude.{◌≡◌, refl, Bool, true, false, ◌&&◌, ℕ, zero, suc, ◌+◌, ◌≤◌, ◌<◌, drop}
use Rattle.std.proofs.Common.{ap, sym, ◌∙◌, suc-le-suc, arith}
use Rattle.lists.specs.Base.{every}
use Rattle.lists.specs.Laws.{every_at, join}
use Rattle.tables.specs.Rows.{rows, length_rows, get_d_rows, drop_rows_at, drop_rows_end}

-- all records pass
pub every_rows : {A : Type 0} (p : A → Bool) (n : ℕ) (g : ℕ → A) → ((i : ℕ) → i < n → p (g i) ≡ true)
    → every p (rows n g) ≡ true
unfolding rows
every_rows p zero g h = refl
every_rows p (suc n) g h =
    join (h 0 (omega arith)) (every_rows p n (λ k. g (suc k)) (λ i q. h (suc i) (suc-le-suc q)))

module _ {A : Type 0} (p : A → Bool) (n : ℕ) (g : ℕ → A) where
  pub every_step : (i : ℕ) → i < n
      → every p (drop i (rows n g)) ≡ (p (g i) && every p (drop (i + 1) (rows n g)))
  every_step i h = ap (every p) (drop_rows_at n g i h)

  -- every record passes, so record i does
  pub every_row : every p (rows n g) ≡ true → (i : ℕ) → i < n → p (g i) ≡ true
  every_row e i h = rw (get_d_rows n g i (g i) h) at (every_at p i (rows n g) (g i) (rw length_rows h) e)

  -- a loop that looks for a record that fails
  module _ (i : ℕ) (inv : every p (drop i (rows n g)) ≡ every p (rows n g)) where
    pub every_more : i < n → p (g i) ≡ true → every p (drop (i + 1) (rows n g)) ≡ every p (rows n g)
    every_more h t = (rw t at (sym (every_step i h))) ∙ inv

    pub every_stop : i < n → p (g i) ≡ false → false ≡ every p (rows n g)
    every_stop h t = (rw t at (sym (every_step i h))) ∙ inv

    pub every_done : n ≤ i → true ≡ every p (rows n g)
    every_done h = sym (ap (every p) (drop_rows_end n g i h)) ∙ inv

-- a test that is not true is false
pub not_so : (t : Bool) → (t ≡ true → ⊥) → false ≡ t
not_so true h = absurd (h refl)
not_so false h = refl
