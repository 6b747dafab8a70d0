-- The books that scalars and tables hold, and what functions on them promise.
use Rattle.std.specs.Prelude.{◌≡◌, refl, List, ℕ, ◌*◌, ◌≤◌, min}
use Rattle.std.proofs.Common.{◌∙◌, arith, ne_eqb}
use Rattle.lists.specs.Base.{when◌then◌else◌}
use Rattle.tables.specs.Rows.{rows}
use Rattle.rules.specs.Types as rule
use Rattle.rules.specs.Calls.{Operation, Room, Call, answer, after, done, result}
use Rattle.primitives.specs.declared.Scalars.{Scalars}
use Rattle.records.specs.Layout.{validator_at, deposit_at, partial_at, consolidation_at}
use Rattle.records.specs.Layout.{identities_fit, validators_fit, deposits_fit, partials_fit, consolidations_fit}
use Rattle.records.specs.Layout.{identities_past, validators_past, deposits_past, partials_past}
use Rattle.records.specs.Layout.{consolidations_past}
use Rattle.records.specs.Past.{drop_more, validators_past_more, identities_past_more}

-- what the five lent buffers hold
pub record Tables : Type 0 where
  pub identities : List ℕ
  pub validators : List ℕ
  pub deposits : List ℕ
  pub partials : List ℕ
  pub consolidations : List ℕ

abbrev pub tables : (identities validators deposits partials consolidations : List ℕ) → Tables
tables ids vs ds ps cs = record {
  identities = ids;
  validators = vs;
  deposits = ds;
  partials = ps;
  consolidations = cs;
}

-- the records of each table
abbrev pub validators_of : Scalars → (identities validators : List ℕ) → List rule.Validator
validators_of s ids vs = rows s.validators (validator_at ids vs)

abbrev pub deposits_of : Scalars → List ℕ → List rule.PendingBalanceDeposit
deposits_of s ds = rows s.deposits (deposit_at ds)

abbrev pub partials_of : Scalars → List ℕ → List rule.PendingPartialWithdrawal
partials_of s ps = rows s.partials (partial_at ps)

abbrev pub consolidations_of : Scalars → List ℕ → List rule.PendingConsolidation
consolidations_of s cs = rows s.consolidations (consolidation_at cs)

unfoldable pub books_of : Scalars → Tables → rule.Books
books_of s t = record {
  epoch = s.epoch.0;
  next_withdrawal_index = s.next_withdrawal_index.0;
  next_withdrawal_validator_index = s.next_withdrawal_validator_index.0;
  deposit_receipts_start_index = s.deposit_receipts_start_index;
  deposit_balance_to_consume = s.deposit_balance_to_consume.0;
  exit_balance_to_consume = s.exit_balance_to_consume.0;
  earliest_exit_epoch = s.earliest_exit_epoch.0;
  consolidation_balance_to_consume = s.consolidation_balance_to_consume.0;
  earliest_consolidation_epoch = s.earliest_consolidation_epoch.0;
  validators = validators_of s t.identities t.validators;
  pending_balance_deposits = deposits_of s t.deposits;
  pending_partial_withdrawals = partials_of s t.partials;
  pending_consolidations = consolidations_of s t.consolidations;
}

-- how many records fit into each buffer; a validator needs room in two
abbrev pub room_of : Tables → Room
room_of t = record {
  validators = min (identities_fit t.identities) (validators_fit t.validators);
  deposits = deposits_fit t.deposits;
  partials = partials_fit t.partials;
  consolidations = consolidations_fit t.consolidations;
}

-- an operation on the books in these tables
abbrev pub call_on : Tables → Operation → Call
call_on t op = record { room = room_of t; operation = op }

-- ---- promises

-- past the records that r counts, the tables u hold what the tables t hold
pub record Beyond (r : Scalars) (u t : Tables) : Type 0 where
  pub identities : identities_past r.validators u.identities ≡ identities_past r.validators t.identities
  pub validators : validators_past r.validators u.validators ≡ validators_past r.validators t.validators
  pub deposits : deposits_past r.deposits u.deposits ≡ deposits_past r.deposits t.deposits
  pub partials : partials_past r.partials u.partials ≡ partials_past r.partials t.partials
  pub consolidations :
      consolidations_past r.consolidations u.consolidations
      ≡ consolidations_past r.consolidations t.consolidations

-- a step that is never refused: the books that it leaves in the scalars r and the tables u, and every word beyond them
pub record Stepped (step : rule.Books → rule.Books) (s : Scalars) (t u : Tables) (r : Scalars) : Type 0 where
  pub books : books_of r u ≡ step (books_of s t)
  pub beyond : Beyond r u t

-- a public call: its number n, the books that it leaves, and every word beyond them; a refusal changes nothing
pub record Called (S : rule.Settings) (op : Operation) (s : Scalars) (t u : Tables) (n : ℕ) (r : Scalars) : Type 0 where
  pub number : n ≡ answer S (books_of s t) (call_on t op)
  pub books : books_of r u ≡ after S (books_of s t) (call_on t op)
  pub beyond : Beyond r u t
  pub refused : (n ≡ 0 → ⊥) → (r ≡ s) × (u ≡ t)

-- ---- their laws

pub beyond_none : (s : Scalars) (t : Tables) → Beyond s t t
beyond_none s t = record {
  identities = refl;
  validators = refl;
  deposits = refl;
  partials = refl;
  consolidations = refl;
}

-- r counts no more records than q
pub record AtMost (r q : Scalars) : Type 0 where
  pub validators : r.validators ≤ q.validators
  pub deposits : r.deposits ≤ q.deposits
  pub partials : r.partials ≤ q.partials
  pub consolidations : r.consolidations ≤ q.consolidations

-- two steps, of which the second counts no fewer records
pub beyond_then : {r q : Scalars} {t u w : Tables} → AtMost r q → Beyond r u t → Beyond q w u → Beyond q w t
beyond_then {r} {q} {t} {u} {w} m f g = record {
  identities =
      g.identities
      ∙ identities_past_more r.validators q.validators u.identities t.identities m.validators
      f.identities;
  validators =
      g.validators
      ∙ validators_past_more r.validators q.validators u.validators t.validators m.validators
      f.validators;
  deposits =
      g.deposits ∙ drop_more (2 * r.deposits) (2 * q.deposits) u.deposits t.deposits d₂ f.deposits;
  partials =
      g.partials ∙ drop_more (3 * r.partials) (3 * q.partials) u.partials t.partials p₃ f.partials;
  consolidations =
      g.consolidations
      ∙ drop_more (2 * r.consolidations) (2 * q.consolidations) u.consolidations t.consolidations c₂
      f.consolidations;
}
  where
    d₂ : 2 * r.deposits ≤ 2 * q.deposits
    d₂ = omega (arith, m.deposits)

    p₃ : 3 * r.partials ≤ 3 * q.partials
    p₃ = omega (arith, m.partials)

    c₂ : 2 * r.consolidations ≤ 2 * q.consolidations
    c₂ = omega (arith, m.consolidations)

-- a refusal with the number n
pub refusal : {S : rule.Settings} {op : Operation} {s : Scalars} {t : Tables} {n : ℕ}
    → n ≡ answer S (books_of s t) (call_on t op) → (n ≡ 0 → ⊥) → Called S op s t t n s
unfolding after done when◌then◌else◌
refusal {S} {op} {s} {t} {n} h z = record {
  number = h;
  books = rw (← h) (rw (ne_eqb n 0 z));
  beyond = beyond_none s t;
  refused = λ _. (refl, refl);
}

-- a call that is done
pub success : {S : rule.Settings} {op : Operation} {s r : Scalars} {t u : Tables}
    → 0 ≡ answer S (books_of s t) (call_on t op) → Stepped (λ b. result S b op) s t u r → Called S op s t u 0 r
unfolding after done when◌then◌else◌
success {S} {op} {s} {r} {t} {u} h d = record {
  number = h;
  books = rw (← h) d.books;
  beyond = d.beyond;
  refused = λ z. absurd (z refl);
}

-- the same operation, given in another way
pub called_as : {S : rule.Settings} {o op : Operation} {s r : Scalars} {t u : Tables} {n : ℕ} → o ≡ op
    → Called S o s t u n r → Called S op s t u n r
called_as e c = rw e at c
