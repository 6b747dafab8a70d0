-- The functions on tests and lists that the rules are written with.
use Rattle.std.specs.Prelude.{Bool, true, false, ◌&&◌, List, [], ◌∷◌, ℕ, zero, suc, ◌+◌, eqb}

module _ {ℓ} {A : Type ℓ} where
  infixr 10 when◌then◌else◌
  unfoldable pub when◌then◌else◌ : Bool → A → A → A
  when true then x else y = x
  when false then x else y = y

-- all of some tests pass
unfoldable pub all : List Bool → Bool
all [] = true
all (t ∷ ts) = t && all ts

-- every element passes a test
abbrev pub every : {A : Type 0} → (A → Bool) → List A → Bool
every t [] = true
every t (x ∷ xs) = t x && every t xs

-- the sum of f over a list
abbrev pub total : {A : Type 0} → (A → ℕ) → List A → ℕ
total f [] = 0
total f (x ∷ xs) = f x + total f xs

-- element i changed by f; a list with no element i is left as it is
abbrev pub adjust : {A : Type 0} → ℕ → (A → A) → List A → List A
adjust i f [] = []
adjust zero f (x ∷ xs) = f x ∷ xs
adjust (suc i) f (x ∷ xs) = x ∷ adjust i f xs

abbrev pub empty : {A : Type 0} → List A → Bool
empty [] = true
empty (x ∷ xs) = false

-- the last element; d where there is none
abbrev pub last : {A : Type 0} → A → List A → A
last d [] = d
last d (x ∷ xs) = last x xs

-- the same bytes in the same order
abbrev pub same_bytes : List ℕ → List ℕ → Bool
same_bytes [] [] = true
same_bytes [] (y ∷ ys) = false
same_bytes (x ∷ xs) [] = false
same_bytes (x ∷ xs) (y ∷ ys) = eqb x y && same_bytes xs ys
