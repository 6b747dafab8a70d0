-- The answer of the total: number and sum leave no second one, and 1, 3 and 2 are all its refusals.
use Rattle.std.specs.Prelude.{◌≡◌, ℕ, Result}
use Rattle.lists.specs.Laws.{by_test}
use Rattle.rules.specs.Types.{Settings, Books}
use Rattle.rules.specs.Calls.{Room, handed_refusal}
use Rattle.primitives.specs.declared.Gwei.{Gwei}
use Rattle.primitives.specs.declared.answers.Refusal.{Refusal}
use Rattle.primitives.specs.Answers.{answer_number, sum_of, sum_fixed}

pub total_fixed : (t u : Result Gwei Refusal) → answer_number t ≡ answer_number u → sum_of t ≡ sum_of u → t ≡ u
total_fixed = sum_fixed

-- ---- what is handed in is refused with 1, 3 or 2

pub handed_accepted : (S : Settings) (b : Books) (r : Room) {n : ℕ} → n ≡ handed_refusal S b r
    → (n ≡ 1 → ⊥) → (n ≡ 3 → ⊥) → (n ≡ 2 → ⊥) → n ≡ 0
unfolding handed_refusal
handed_accepted S b r {n} e settings room books =
    by_test (λ k. n ≡ k → n ≡ 0) _ (λ _ h. absurd (settings h))
    (λ _. by_test (λ k. n ≡ k → n ≡ 0) _ (λ _ h. absurd (room h))
    (λ _. by_test (λ k. n ≡ k → n ≡ 0) _ (λ _ h. absurd (books h)) (λ _ h. h))) e
