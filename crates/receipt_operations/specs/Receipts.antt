-- The parts of a deposit receipt, by what the code decides before it stores.
use Rattle.std.specs.Prelude.{◌≡◌, Result, Ok, Err, Bool, List, ℕ, ◌+◌, ◌≤◌, leb, eqb}
use Rattle.std.proofs.Math.Path.{refl, sym, ap}
use Rattle.std.proofs.Common.{◌∙◌, arith}
use Rattle.lists.specs.Base.{when◌then◌else◌}
use Rattle.rules.specs.Types.{FAR, BOUND, Settings, Books}
use Rattle.rules.specs.Helpers.{queue_deposit}
use Rattle.rules.specs.Helpers.{switch_to_compounding_validator}
use Rattle.rules.specs.BlockProcessing.{start_receipts}
use Rattle.rules.specs.Acceptance.{held, sound_books}
use Rattle.rules.specs.Calls.{size_refusal}
use Rattle.rule_laws.specs.Accepted.{SoundBooks, books_sound, books_sound_so}
use Rattle.primitives.specs.declared.Scalars.{Scalars}
use Rattle.primitives.specs.declared.answers.Refusal.{Refusal}
use Rattle.primitives.specs.Answers.{answer_number, answer_or, refusal_not_0}
use Rattle.primitives.specs.Scalars as scalars
use Rattle.records.specs.Layout.{identities_fit, validators_fit, deposits_fit}
use Rattle.records.specs.Books.{Tables, tables, books_of}
use Rattle.records.specs.Reading.{validators_count, deposits_count}
use Rattle.acceptance.specs.Handed.{Facts}
use Rattle.acceptance.specs.Held.{held_form}
use Rattle.call_answers.specs.Answers.{Judged}

-- ---- the receipt start

abbrev pub started : Scalars → ℕ → Scalars
started s index =
    let start = s.deposit_receipts_start_index in
    scalars.with_receipts_start s (when eqb start FAR then index else start)

module _ (s : Scalars) (index : ℕ) (t : Tables) where
  pub started_books : start_receipts index (books_of s t) ≡ books_of (started s index) t
  unfolding books_of
  started_books = refl

  -- no test looks at it
  same_test : (S : Settings) → sound_books S (books_of (started s index) t) ≡ sound_books S (books_of s t)
  unfolding sound_books books_of
  same_test S = refl

  pub started_sound : (S : Settings) → SoundBooks S (books_of s t) → SoundBooks S (books_of (started s index) t)
  started_sound S k =
      books_sound S (books_of (started s index) t) (same_test S ∙ books_sound_so S (books_of s t) k)

-- ---- what the functions require

pub record ReceiptReady (S : Settings) (s : Scalars) (ids vs ds : List ℕ) : Type 0 where
  pub registry : s.validators ≤ S.validator_registry_limit
  pub queued : s.deposits ≤ S.pending_balance_deposits_limit
  pub most : S.validator_registry_limit ≤ 65536
  pub most_queued : S.pending_balance_deposits_limit ≤ 65536
  pub identities : S.validator_registry_limit ≤ identities_fit ids
  pub validators : S.validator_registry_limit ≤ validators_fit vs
  pub deposits : S.pending_balance_deposits_limit ≤ deposits_fit ds

pub receipt_ready : (S : Settings) (s : Scalars) (t : Tables) → Facts S s t
    → ReceiptReady S s t.identities t.validators t.deposits
receipt_ready S s t f = record {
  registry = omega (arith, f.books.registry_fits, validators_count s t);
  queued = omega (arith, f.books.deposits_fit, deposits_count s t);
  most = f.settings.registry_limit.most;
  most_queued = f.settings.deposits_limit.most;
  identities = f.room.identities;
  validators = f.room.validators;
  deposits = f.room.deposits;
}

-- ---- a step behind the receipt start

module _ (S : Settings) (s q : Scalars) (index : ℕ) (t : Tables) (begun : q ≡ started s index) where
  pub started_ready : Facts S s t → ReceiptReady S q t.identities t.validators t.deposits
  started_ready f =
      rw begun (receipt_ready S (started s index) t (record {
        settings = f.settings;
        room = f.room;
        books = started_sound s index t S f.books;
      }))

  pub started_accepted : SoundBooks S (books_of s t) → SoundBooks S (books_of q t)
  started_accepted k = rw begun (started_sound s index t S k)

  same_books : books_of q t ≡ start_receipts index (books_of s t)
  same_books = ap (λ (x : Scalars). books_of x t) begun ∙ sym (started_books s index t)

  module _ {step : Books → Books} {u : Tables} {n : ℕ} {r : Scalars} (j : Judged S step q t u n r) where
    -- a refused receipt does not set the start
    pub started_refused : (n ≡ 0 → ⊥) → Judged S (λ b. step (start_receipts index b)) s t u n s
    started_refused z = record {
      number = j.number ∙ ap (λ (b : Books). size_refusal S (step b)) same_books;
      done = λ e. absurd (z e);
      refused = λ w. (refl, (j.refused w).1);
    }

    pub started_done : n ≡ 0 → Judged S (λ b. step (start_receipts index b)) s t u n r
    started_done e = record {
      number = j.number ∙ ap (λ (b : Books). size_refusal S (step b)) same_books;
      done = λ z. record { books = (j.done z).books ∙ ap step same_books; beyond = (j.done z).beyond };
      refused = λ w. absurd (w e);
    }

-- behind the receipt start, whatever is answered: a refusal leaves the scalars as they were before it
pub started_answered : (S : Settings) (s q : Scalars) (index : ℕ) (t : Tables) → q ≡ started s index
    → {step : Books → Books} {u : Tables} (a : Result Scalars Refusal)
    → Judged S step q t u (answer_number a) (answer_or q a)
    → Judged S (λ b. step (start_receipts index b)) s t u (answer_number a) (answer_or s a)
started_answered S s q index t begun (Ok r) j = started_done S s q index t begun j refl
started_answered S s q index t begun (Err e) j = started_refused S s q index t begun j (refusal_not_0 e)

-- what is held, with the amount, is the same behind the receipt start and whatever the other tables are
pub started_sums : (s q : Scalars) (index : ℕ) (t : Tables) → q ≡ started s index → (ids ps cs : List ℕ) (amount : ℕ)
    {sums : Bool} → sums ≡ leb (held (books_of s t) + amount) BOUND
    → sums ≡ leb (held (books_of q (tables ids t.validators t.deposits ps cs)) + amount) BOUND
started_sums s q index t begun ids ps cs amount e =
    let u = tables ids t.validators t.deposits ps cs in
    rw begun
    (e ∙ ap (λ (n : ℕ). leb (n + amount) BOUND) (held_form s t ∙ sym (held_form (started s index) u)))

-- ---- a known key

-- its own entry, then the switch
unfoldable pub known_deposit : Settings → (i amount : ℕ) → Bool → Books → Books
known_deposit S i amount switch b =
    let queued = queue_deposit i amount b in
    when switch then switch_to_compounding_validator S i queued else queued
