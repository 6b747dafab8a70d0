-- Rewards and penalties: their own test, the size of their results, and their one store.
use Rattle.std.specs.Prelude.{◌≡◌, false, List, ℕ, ◌+◌, ◌≤◌, ◌<◌, ◌^◌, ltb}
use Rattle.std.proofs.Common.{sym, ◌∙◌, arith, lt-ltb, le-ltb, le-leb}
use Rattle.std.proofs.lemmas.Bool.{lt-leb}
use Rattle.lists.specs.Base.{when◌then◌else◌}
use Rattle.rules.specs.Types as rule
use Rattle.rules.specs.Types.{BOUND}
use Rattle.rules.specs.Helpers.{count, increased, decreased}
use Rattle.rules.specs.Acceptance.{held}
use Rattle.rules.specs.Calls.{reward, penalty, handed_refusal, own_refusal, result, size_refusal}
use Rattle.primitives.specs.declared.Scalars.{Scalars}
use Rattle.tables.specs.Totals.{total_at_most}
use Rattle.records.specs.Layout.{balance_at, validators_fit}
use Rattle.records.specs.Books.{Tables, tables, books_of, room_of, Called}
use Rattle.records.specs.Reading.{validators_count}
use Rattle.records.specs.Stores.{ValidatorAdjusted}
use Rattle.acceptance.specs.Handed.{facts}
use Rattle.acceptance.specs.Held.{held_form}
use Rattle.result_sizes.specs.Epoch.{reward_size, penalty_size}
use Rattle.call_answers.specs.Called.{own_refused, size_refused, call_done, adjusted_stepped}

module _ (S : rule.Settings) (s : Scalars) (t : Tables) (i amount : ℕ)
    (h : handed_refusal S (books_of s t) (room_of t) ≡ 0) where
  inside : i < s.validators → i < count (books_of s t)
  inside p = omega (arith, p, validators_count s t)

  outside : s.validators ≤ i → ltb i (count (books_of s t)) ≡ false
  outside p = le-ltb i (count (books_of s t)) (omega (arith, p, validators_count s t))

  pub in_table : i < s.validators → i < validators_fit t.validators
  in_table p =
      let f = facts S s t h in
      omega (arith, p, f.room.validators, f.books.registry_fits, validators_count s t)

  -- a reward that keeps the sum within the bound fits the balance
  pub balance_fits : i < s.validators → held (books_of s t) + amount ≤ BOUND
      → balance_at t.validators i + amount < 2 ^ 64
  balance_fits p q =
      omega
      (arith, q, held_form s t, total_at_most (λ (x : ℕ). x) s.validators (balance_at t.validators) i p)

  -- ---- no such validator

  pub reward_unknown : s.validators ≤ i → Called S (reward i amount) s t t 10 s
  unfolding own_refusal when◌then◌else◌
  reward_unknown p = own_refused S (reward i amount) s t 10 h (rw (outside p)) (omega arith)

  pub penalty_unknown : s.validators ≤ i → Called S (penalty i amount) s t t 10 s
  unfolding own_refusal when◌then◌else◌
  penalty_unknown p = own_refused S (penalty i amount) s t 10 h (rw (outside p)) (omega arith)

  known_reward : i < s.validators → own_refusal S (books_of s t) (reward i amount) ≡ 0
  unfolding own_refusal when◌then◌else◌
  known_reward p = rw (lt-ltb i (count (books_of s t)) (inside p))

  known_penalty : i < s.validators → own_refusal S (books_of s t) (penalty i amount) ≡ 0
  unfolding own_refusal when◌then◌else◌
  known_penalty p = rw (lt-ltb i (count (books_of s t)) (inside p))

  -- ---- the sum

  pub reward_over : i < s.validators → BOUND < held (books_of s t) + amount → Called S (reward i amount) s t t 41 s
  unfolding result
  reward_over p q =
      size_refused S (reward i amount) s t 41 h (known_reward p)
      (sym (reward_size S (books_of s t) (facts S s t h).books i amount (inside p)
      ∙ rw (lt-leb (held (books_of s t) + amount) BOUND q)))
      (omega arith)

  reward_within : i < s.validators → held (books_of s t) + amount ≤ BOUND
      → size_refusal S (result S (books_of s t) (reward i amount)) ≡ 0
  unfolding result
  reward_within p q =
      reward_size S (books_of s t) (facts S s t h).books i amount (inside p)
      ∙ rw (le-leb (held (books_of s t) + amount) BOUND q)

  penalty_within : size_refusal S (result S (books_of s t) (penalty i amount)) ≡ 0
  unfolding result
  penalty_within = penalty_size S (books_of s t) (facts S s t h).books i amount

-- ---- done

module _ (S : rule.Settings) (s : Scalars) (ids vs new ds ps cs : List ℕ) (i amount : ℕ)
    (h : handed_refusal S (books_of s (tables ids vs ds ps cs)) (room_of (tables ids vs ds ps cs)) ≡ 0) where
  abbrev t : Tables
  t = tables ids vs ds ps cs

  pub reward_done : i < s.validators → held (books_of s t) + amount ≤ BOUND
      → ValidatorAdjusted i (increased amount) vs new
      → Called S (reward i amount) s t (tables ids new ds ps cs) 0 s
  unfolding result
  reward_done p q a =
      call_done S (reward i amount) s t h (known_reward S s t i amount h p) (reward_within S s t i amount h p q)
      (adjusted_stepped i (increased amount) s ids vs new ds ps cs p a)

  pub penalty_done : i < s.validators → ValidatorAdjusted i (decreased amount) vs new
      → Called S (penalty i amount) s t (tables ids new ds ps cs) 0 s
  unfolding result
  penalty_done p a =
      call_done S (penalty i amount) s t h (known_penalty S s t i amount h p) (penalty_within S s t i amount h)
      (adjusted_stepped i (decreased amount) s ids vs new ds ps cs p a)
