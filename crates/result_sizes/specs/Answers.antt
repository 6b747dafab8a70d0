-- The answer by where it comes from: what was handed in, the call's own tests, or the result's size.
use Rattle.std.specs.Prelude.{◌≡◌, ℕ}
use Rattle.std.proofs.Common.{eq-eqb, ne_eqb}
use Rattle.lists.specs.Base.{when◌then◌else◌}
use Rattle.rules.specs.Types.{Settings, Books}
use Rattle.rules.specs.Calls.{Call, handed_refusal, own_refusal, result, size_refusal, answer}

module _ (S : Settings) (b : Books) (c : Call) (n : ℕ) where
  pub answer_handed : n ≡ handed_refusal S b c.room → (n ≡ 0 → ⊥) → n ≡ answer S b c
  unfolding answer when◌then◌else◌
  answer_handed h z = rw (← h) (rw (ne_eqb n 0 z))

  pub answer_own : handed_refusal S b c.room ≡ 0 → n ≡ own_refusal S b c.operation → (n ≡ 0 → ⊥)
      → n ≡ answer S b c
  unfolding answer when◌then◌else◌
  answer_own h o z = rw (eq-eqb (handed_refusal S b c.room) 0 h) (rw (← o) (rw (ne_eqb n 0 z)))

  pub answer_size : handed_refusal S b c.room ≡ 0 → own_refusal S b c.operation ≡ 0
      → n ≡ size_refusal S (result S b c.operation) → n ≡ answer S b c
  unfolding answer when◌then◌else◌
  answer_size h o s =
      rw (eq-eqb (handed_refusal S b c.room) 0 h) (rw (eq-eqb (own_refusal S b c.operation) 0 o) s)
