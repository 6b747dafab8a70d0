-- A loop that fills an array of n elements: element k of it is g k.
use Rattle.std.specs.Prelude.{◌≡◌, List, ℕ, ◌+◌, ◌≤◌, ◌<◌, length, get_or, set}
use Rattle.std.proofs.Common.{sym, ◌∙◌, not-suc-le-zero, arith, below_more, length-set, get_or-set_same}
use Rattle.std.proofs.Common.{get_or-set_other}
use Rattle.tables.specs.Rows.{rows, rows_ext, rows_getD}

-- g 0, g 1, .., g (j - 1) stand in `to`
pub record Filled {A : Type 0} (d : A) (g : ℕ → A) (to : List A) (n j : ℕ) : Type 0 where
  pub size : length to ≡ n
  pub same : (k : ℕ) → k < j → get_or to k d ≡ g k

module _ {A : Type 0} {d : A} {g : ℕ → A} {to : List A} {n : ℕ} where
  pub filled_none : length to ≡ n → Filled d g to n 0
  filled_none e = record { size = e; same = λ k h. absurd (not-suc-le-zero h) }

  pub filled_more : {j : ℕ} {x : A} → j < n → x ≡ g j → Filled d g to n j → Filled d g (set to j x) n (j + 1)
  filled_more {j} {x} h e c = record {
    size = length-set to j x ∙ c.size;
    same = below_more _ _
        (λ k p. get_or-set_other to j k x d (omega arith) ∙ c.same k p)
        (get_or-set_same to j x d (omega (arith, c.size)) ∙ e);
  }

  pub filled_all : {j : ℕ} → n ≤ j → Filled d g to n j → to ≡ rows n g
  filled_all h c = sym (rows_getD to n d c.size) ∙ rows_ext n _ _ (λ k p. c.same k (omega arith))
