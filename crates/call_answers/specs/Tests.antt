-- Chains of tests: what the first that fails gives; and tests in other forms.
use Rattle.std.specs.Prelude.{◌≡◌, refl, Bool, true, false, not, ℕ, eqb}
use Rattle.std.proofs.Common.{ap, arith, eq-eqb, ne_eqb}
use Rattle.lists.specs.Base.{when◌then◌else◌}
use Rattle.result_sizes.specs.Size.{size_number}

module _ {A : Type 0} where
  -- this test failed
  pub fails : (t : Bool) {x : A} (rest : A) → t ≡ true → x ≡ (when t then x else rest)
  unfolding when◌then◌else◌
  fails t rest e = rw e

  -- this test passed, and the rest came to y
  pub passes : (t : Bool) (x : A) {rest y : A} → t ≡ false → y ≡ rest → y ≡ (when t then x else rest)
  unfolding when◌then◌else◌
  passes t x e h = rw e h

pub differs : (x y : ℕ) → (x ≡ y → ⊥) → not (eqb x y) ≡ true
differs x y h = ap not (ne_eqb x y h)

pub agrees : (x y : ℕ) → x ≡ y → not (eqb x y) ≡ false
agrees x y h = ap not (eq-eqb x y h)

-- a result that is not too large is within its limits
pub size_first : (limits sums epochs : Bool) → size_number limits sums epochs ≡ 0 → limits ≡ true
size_first true sums epochs e = refl
size_first false sums epochs e = let z : ⊥ = omega arith in absurd z
