-- What a search for a key finds.
use Rattle.std.specs.Prelude.{◌≡◌, refl, ℕ, ◌<◌, Option, Some, None}
use Rattle.std.proofs.Common.{ap, sym, ◌∙◌, arith}
use Rattle.primitives.specs.declared.ValidatorIndex.{ValidatorIndex}

-- what is found says of the key's position, which is the count where no validator has it
abbrev pub Finds : Option ValidatorIndex → (count position : ℕ) → Type 0
Finds (Some i) count position = (i.0 ≡ position) × (i.0 < count)
Finds None count position = count ≡ position

-- no second answer
pub finds_fixed : (f g : Option ValidatorIndex) (n p : ℕ) → Finds f n p → Finds g n p → f ≡ g
finds_fixed (Some i) (Some j) n p h k = ap (λ (x : ℕ). Some (record { 0 = x })) (h.0 ∙ sym k.0)
finds_fixed (Some i) None n p h k = let z : ⊥ = omega (arith, h.0, h.1, k) in absurd z
finds_fixed None (Some j) n p h k = let z : ⊥ = omega (arith, k.0, k.1, h) in absurd z
finds_fixed None None n p h k = refl
