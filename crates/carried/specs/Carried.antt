-- Demand 3 of the code. A list of public calls, each handed the books that the last one left, in the same buffers or in
-- others. What is known of each is its own promise, `Called`, and nothing else.
use Rattle.std.specs.Prelude.{◌≡◌, List, [], ◌∷◌, ◌++◌, ℕ, ◌+◌, ◌≤◌}
use Rattle.rules.specs.Types.{Settings, Books}
use Rattle.rules.specs.Acceptance.{held, deposit_amounts}
use Rattle.rules.specs.Calls.{Operation, Call}
use Rattle.rules.specs.Counting.{counted}
use Rattle.primitives.specs.declared.Scalars.{Scalars}
use Rattle.records.specs.Books.{Tables, books_of, call_on, Called}

-- the calls cs are made from the scalars s and the tables t on, answer the numbers ns, and leave the scalars r in the
-- tables u
pub data Carried (S : Settings) : Scalars → Tables → List Call → List ℕ → Scalars → Tables → Type 0 where
  none : {s : Scalars} {t : Tables} → Carried S s t [] [] s t
  next : {s : Scalars} {t : Tables} {op : Operation} {n : ℕ} {s₁ : Scalars} {t₁ : Tables}
      → Called S op s t t₁ n s₁
      → (s₂ : Scalars) (t₂ : Tables) → books_of s₂ t₂ ≡ books_of s₁ t₁
      → {cs : List Call} {ns : List ℕ} {r : Scalars} {u : Tables} → Carried S s₂ t₂ cs ns r u
      → Carried S s t (call_on t op ∷ cs) (n ∷ ns) r u

-- Demand 3, each term counted from the opening books and the calls alone
pub record Demand3Carried (S : Settings) (opening : Books) (cs : List Call) (closing : Books) : Type 0 where
  pub sums : held closing + (counted S opening cs).taken_out ≡ held opening + (counted S opening cs).taken_in
  pub order : (counted S opening cs).credited ++ closing.pending_balance_deposits
      ≡ opening.pending_balance_deposits ++ (counted S opening cs).queued
  pub spent : deposit_amounts (counted S opening cs).credited
      ≤ opening.deposit_balance_to_consume + (counted S opening cs).allowance
