-- The worked list of calls, in which no term is 0, carried out by the public calls on buffers that hold its opening.
use Rattle.std.specs.Prelude.{◌≡◌, List, [], ◌∷◌, ℕ, ◌*◌}
use Rattle.std.proofs.Common.{ap, ◌∙◌}
use Rattle.rules.specs.Acceptance.{held}
use Rattle.rules.specs.Calls.{answers, run}
use Rattle.rules.specs.Examples.{G, mainnet}
use Rattle.rules.proofs.Worked.{opening, worked_calls, worked_answers, worked_sums}
use Rattle.primitives.specs.declared.Scalars.{Scalars}
use Rattle.records.specs.Books.{Tables, books_of}
use Rattle.carried.specs.Carried.{Carried}
use Rattle.carried.proofs.Carried.{carried_answers, carried_books}

module _ {s r : Scalars} {t u : Tables} {ns : List ℕ} (start : books_of s t ≡ opening)
    (c : Carried mainnet s t worked_calls ns r u) where
  pub worked_numbers : ns ≡ 0 ∷ 0 ∷ 0 ∷ 10 ∷ 0 ∷ 0 ∷ 0 ∷ 0 ∷ 0 ∷ []
  worked_numbers = carried_answers c ∙ ap (λ b. answers mainnet b worked_calls) start ∙ worked_answers

  pub worked_held : held (books_of r u) ≡ 256 * G
  worked_held = ap held (carried_books c ∙ ap (λ b. run mainnet b worked_calls) start) ∙ worked_sums.1
