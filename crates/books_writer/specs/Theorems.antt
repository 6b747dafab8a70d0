-- The writer's promise leaves no second outcome.
use Rattle.std.specs.Prelude.{◌≡◌, refl, Bool, true, false, List, ℕ, eqb}
use Rattle.std.proofs.Common.{sym, ◌∙◌, eqb-true}
use Rattle.std.proofs.lemmas.Bool.{eqb-false}
use Rattle.rules.specs.Types.{Settings}
use Rattle.primitives.specs.declared.Scalars.{Scalars}
use Rattle.records.specs.Books.{Tables}
use Rattle.books_writer.specs.Written.{BooksWritten}

module _ (S : Settings) (s : Scalars) (t : Tables) (out : List ℕ) where
  pub written_fixed : (last₁ last₂ : List ℕ) (n₁ n₂ size₁ size₂ : ℕ)
      → BooksWritten S s t out last₁ n₁ size₁ → BooksWritten S s t out last₂ n₂ size₂
      → (n₁ ≡ n₂) × (size₁ ≡ size₂) × (last₁ ≡ last₂)
  written_fixed last₁ last₂ n₁ n₂ size₁ size₂ w₁ w₂ = go (eqb n₁ 0) refl
    where
      same : n₁ ≡ n₂
      same = w₁.number ∙ sym w₂.number

      go : (b : Bool) → eqb n₁ 0 ≡ b → (n₁ ≡ n₂) × (size₁ ≡ size₂) × (last₁ ≡ last₂)
      go true e =
          let z = eqb-true n₁ 0 e in
          let d₁ = w₁.done z in
          let d₂ = w₂.done (sym same ∙ z) in
          (same, d₁.0 ∙ sym d₂.0, d₁.1 ∙ sym d₂.1)
      go false e =
          let z = eqb-false n₁ 0 e in
          let r₁ = w₁.refused z in
          let r₂ = w₂.refused (λ q. z (same ∙ q)) in
          (same, r₁.0 ∙ sym r₂.0, r₁.1 ∙ sym r₂.1)
