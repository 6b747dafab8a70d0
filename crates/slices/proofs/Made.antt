-- What `array::from_fn` makes of a closure that changes nothing: `rows` of what a call at each index gives.
use Rattle.std.specs.Prelude.{◌≡◌, List, [], ◌∷◌, ℕ, zero, suc, ◌+◌, ◌<◌, length, get_or}
use Rattle.std.proofs.Common.{sym, ◌∙◌, subst, refl, arith, not-suc-le-zero}
use Rattle.std.specs.Array.{IsFromFnResult, IsFromFnResultFrom}
use denote.Param.Members.{Mut, Called}
use Rattle.tables.specs.Rows.{rows, rows_ext, rows_getD}

listed : {B : Type 0} (h : ℕ → B) (ys : List B) (n : ℕ) → length ys ≡ n
    → ((k : ℕ) (d : B) → k < n → get_or ys k d ≡ h k) → ys ≡ rows n h
unfolding rows
listed h [] zero e a = refl
listed h [] (suc n) e a = let z : ⊥ = omega arith in absurd z
listed h (x ∷ xs) n e a = sym (rows_getD (x ∷ xs) n x e) ∙ rows_ext n _ _ (λ k b. a k x b)

module _ {F B : Type 0} {g : Mut F (ℕ × Unit {0}) B} {f : F} (h : ℕ → B) where
  elements : (ys : List B) (n i : ℕ) → IsFromFnResultFrom g f ys i n
      → ((j : ℕ) (y : B) (q : F) → Called g f (j, tt) y q → (q ≡ f) × (y ≡ h j))
      → (k : ℕ) (d : B) → k < n → get_or ys (i + k) d ≡ h (i + k)
  elements ys zero i e p k d b = absurd (not-suc-le-zero b)
  elements ys (suc n) i (q, y, a, c, r) p zero d b =
      let z : i + 0 ≡ i = omega arith in rw z (a.1 d ∙ (p i y q c).1)
  elements ys (suc n) i (q, y, a, c, r) p (suc k) d b =
      let z : i + suc k ≡ i + 1 + k = omega arith in
      let s = subst (λ t. IsFromFnResultFrom g t ys (i + 1) n) (p i y q c).0 r in
      rw z (elements ys n (i + 1) s p k d (omega arith))

  pub made_rows : {ys : List B} {n : ℕ} → IsFromFnResult g f ys n
      → ((j : ℕ) (y : B) (q : F) → Called g f (j, tt) y q → (q ≡ f) × (y ≡ h j)) → ys ≡ rows n h
  made_rows {ys} {n} e p =
      listed h ys n e.long
      (λ k d b. let z : 0 + k ≡ k = omega arith in rw z at (elements ys n 0 e.each p k d b))
