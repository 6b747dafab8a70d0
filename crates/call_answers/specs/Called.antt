-- A public call by where its answer comes from: what was handed in, its own tests, its result's size, or none.
use Rattle.std.specs.Prelude.{◌≡◌, refl, List, ℕ, ◌<◌}
use Rattle.std.proofs.Common.{sym}
use Rattle.lists.specs.Base.{adjust}
use Rattle.rules.specs.Types as rule
use Rattle.rules.specs.Update.{with_validators}
use Rattle.rules.specs.Calls.{Operation, handed_refusal, own_refusal, result, size_refusal}
use Rattle.primitives.specs.declared.Scalars.{Scalars}
use Rattle.records.specs.Books.{Tables, tables, books_of, room_of, call_on, Stepped, Called, refusal, success}
use Rattle.records.specs.Stores.{ValidatorAdjusted}
use Rattle.result_sizes.specs.Answers.{answer_handed, answer_own, answer_size}

module _ (S : rule.Settings) (op : Operation) (s : Scalars) (t : Tables) where
  abbrev handed : ℕ
  handed = handed_refusal S (books_of s t) (room_of t)

  abbrev own : ℕ
  own = own_refusal S (books_of s t) op

  abbrev size : ℕ
  size = size_refusal S (result S (books_of s t) op)

  pub handed_refused : (n : ℕ) → n ≡ handed → (n ≡ 0 → ⊥) → Called S op s t t n s
  handed_refused n h z = refusal (answer_handed S (books_of s t) (call_on t op) n h z) z

  pub own_refused : (n : ℕ) → handed ≡ 0 → n ≡ own → (n ≡ 0 → ⊥) → Called S op s t t n s
  own_refused n h o z = refusal (answer_own S (books_of s t) (call_on t op) n h o z) z

  pub size_refused : (n : ℕ) → handed ≡ 0 → own ≡ 0 → n ≡ size → (n ≡ 0 → ⊥) → Called S op s t t n s
  size_refused n h o q z = refusal (answer_size S (books_of s t) (call_on t op) n h o q) z

  pub call_done : {u : Tables} {r : Scalars} → handed ≡ 0 → own ≡ 0 → size ≡ 0
      → Stepped (λ b. result S b op) s t u r → Called S op s t u 0 r
  call_done h o q d = success (answer_size S (books_of s t) (call_on t op) 0 h o (sym q)) d

-- one validator changed
pub adjusted_stepped : (i : ℕ) (f : rule.Validator → rule.Validator) (s : Scalars) (ids vs new ds ps cs : List ℕ)
    → i < s.validators → ValidatorAdjusted i f vs new
    → Stepped (λ b. with_validators (adjust i f b.validators) b) s
    (tables ids vs ds ps cs) (tables ids new ds ps cs) s
unfolding books_of
adjusted_stepped i f s ids vs new ds ps cs h a = record {
  books = rw (a.validators ids s.validators);
  beyond = record {
    identities = refl;
    validators = a.past s.validators h;
    deposits = refl;
    partials = refl;
    consolidations = refl;
  };
}
