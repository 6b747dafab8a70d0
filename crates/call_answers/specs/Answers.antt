-- A step that is refused where its result is too large, and the call that takes it.
use Rattle.std.specs.Prelude.{◌≡◌, refl, ℕ, zero, suc}
use Rattle.std.proofs.Common.{sym, ap, ◌∙◌, arith}
use Rattle.rules.specs.Types.{Settings, Books}
use Rattle.rules.specs.Calls.{Operation, handed_refusal, own_refusal, size_refusal, result}
use Rattle.rule_laws.specs.Accepted.{SoundBooks}
use Rattle.result_sizes.specs.Receipts.{same_size}
use Rattle.primitives.specs.declared.Scalars.{Scalars}
use Rattle.records.specs.Books.{Tables, books_of, room_of, Stepped, Called, beyond_none}
use Rattle.call_answers.specs.Called.{size_refused, call_done}

-- Its number n, what it leaves where that is 0, and that a refusal changes nothing
pub record Judged (S : Settings) (step : Books → Books) (s : Scalars) (t u : Tables) (n : ℕ) (r : Scalars)
    : Type 0 where
  pub number : n ≡ size_refusal S (step (books_of s t))
  pub done : n ≡ 0 → Stepped step s t u r
  pub refused : (n ≡ 0 → ⊥) → (r ≡ s) × (u ≡ t)

module _ {S : Settings} {step : Books → Books} {s : Scalars} {t : Tables} where
  pub judged_done : {u : Tables} {r : Scalars} → 0 ≡ size_refusal S (step (books_of s t)) → Stepped step s t u r
      → Judged S step s t u 0 r
  judged_done h d = record { number = h; done = λ _. d; refused = λ z. absurd (z refl) }

  pub judged_refused : {n : ℕ} → n ≡ size_refusal S (step (books_of s t)) → (n ≡ 0 → ⊥) → Judged S step s t t n s
  judged_refused h z = record { number = h; done = λ e. absurd (z e); refused = λ _. (refl, refl) }

  -- nothing changes
  pub judged_same : SoundBooks S (books_of s t) → books_of s t ≡ step (books_of s t) → Judged S step s t t 0 s
  judged_same k e =
      judged_done (sym (same_size S (books_of s t) k) ∙ ap (size_refusal S) e)
      (record { books = e; beyond = beyond_none s t })

  -- another step that gives the same books
  pub judged_as : {u : Tables} {n : ℕ} {r : Scalars} (other : Books → Books)
      → step (books_of s t) ≡ other (books_of s t) → Judged S step s t u n r → Judged S other s t u n r
  judged_as other e j = record {
    number = j.number ∙ ap (size_refusal S) e;
    done = λ z. record { books = (j.done z).books ∙ e; beyond = (j.done z).beyond };
    refused = j.refused;
  }

-- ---- the call

-- its own tests passed, and the rest was judged by the size of its result
pub judged_called : {S : Settings} {op : Operation} {s : Scalars} {t u : Tables} {n : ℕ} {r : Scalars}
    → handed_refusal S (books_of s t) (room_of t) ≡ 0 → own_refusal S (books_of s t) op ≡ 0
    → Judged S (λ b. result S b op) s t u n r → Called S op s t u n r
judged_called {S} {op} {s} {t} {u} {n} {r} h o j = go n j
  where
    go : (n : ℕ) → Judged S (λ b. result S b op) s t u n r → Called S op s t u n r
    go zero j = call_done S op s t h o (sym j.number) (j.done refl)
    go (suc m) j =
        let z : suc m ≡ 0 → ⊥ = λ e. omega arith in
        let p = j.refused z in
        rw (p.0, p.1) (size_refused S op s t (suc m) h o j.number z)
