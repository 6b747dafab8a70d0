-- A consolidation's tests on tables, what it stores, and the size of its result.
use Rattle.std.specs.Prelude.{◌≡◌, Bool, true, not, List, [], ◌∷◌, ◌++◌, ℕ, ◌+◌, ◌≤◌, ◌<◌, leb, ltb, eqb}
use Rattle.std.proofs.Math.Path.{refl}
use Rattle.std.proofs.Common.{sym, ap, ◌∙◌, arith}
use Rattle.std.proofs.Math.ListN.{length}
use borrow.Author.Tests.{ltb-true, leb-false, le-leb, lt-leb}
use Rattle.lists.specs.Base.{when◌then◌else◌, adjust, same_bytes}
use Rattle.lists.specs.Laws.{passed, not_not}
use Rattle.rules.specs.Types.{FAR, BOUND, Settings, Validator, PendingConsolidation, Books}
use Rattle.rules.specs.Update.{with_exit, with_consolidation_churn, with_validators, with_pending_consolidations}
use Rattle.rules.specs.Helpers.{at, count, Assignment, withdrawal_address, is_active_validator}
use Rattle.rules.specs.Helpers.{has_execution_withdrawal_credential, get_total_active_balance}
use Rattle.rules.specs.Helpers.{get_balance_churn_limit, get_activation_exit_churn_limit, get_consolidation_churn_limit}
use Rattle.rules.specs.Helpers.{compute_consolidation_epoch_and_update_churn}
use Rattle.rules.specs.BlockProcessing.{consolidation_refusal, process_consolidation}
use Rattle.rules.specs.Calls.{size_refusal}
use Rattle.rule_laws.specs.Accepted.{SoundSettings, SoundBooks}
use Rattle.result_sizes.specs.Size.{size_number}
use Rattle.result_sizes.specs.Block.{consolidation_size}
use Rattle.primitives.specs.declared.Scalars.{Scalars}
use Rattle.primitives.specs.Scalars as scalars
use Rattle.records.specs.declared.books.Books as lent
use Rattle.records.specs.Layout.{validator_at, effective_balance_at}
use Rattle.records.specs.Stores.{ValidatorAdjusted}
use Rattle.records.specs.Queues.{ConsolidationPushed}
use Rattle.records.specs.Books.{Tables, tables, books_of, Stepped}
use Rattle.records.specs.Lent.{plain_books}
use Rattle.records.specs.Reading.{validators_count, consolidations_count, validator_read}
use Rattle.helpers.specs.Exits.{consolidation_assignment, consolidation_by_churn}

-- ---- the tests

-- those that look at source and target as records
unfoldable pub pair_refusal : (current_epoch : ℕ) (source target : Validator) (epoch : ℕ) → Bool → ℕ
pair_refusal current_epoch source target epoch valid =
    when not (is_active_validator current_epoch source) then 11
    else when not (is_active_validator current_epoch target) then 11
    else when not (eqb source.exit_epoch FAR) then 12
    else when not (eqb target.exit_epoch FAR) then 12
    else when ltb current_epoch epoch then 13
    else when not (has_execution_withdrawal_credential source) then 23
    else when not (has_execution_withdrawal_credential target) then 23
    else when not (same_bytes (withdrawal_address source) (withdrawal_address target)) then 24
    else when not valid then 16
    else 0

-- those before them, of a queue of so many entries and so many validators
unfoldable pub index_refusal : Settings → (queued churn validators source target rest : ℕ) → ℕ
index_refusal S queued churn validators source target rest =
    when leb S.pending_consolidations_limit queued then 20
    else when leb churn S.min_activation_balance then 21
    else when eqb source target then 22
    else when not (ltb source validators) then 10
    else when not (ltb target validators) then 10
    else rest

-- the churn looks at no queue: where the lent books' is known, so is that of books with other words in the queues
pub churn_known : (S : Settings) (b : lent.Books) (ds ps cs : List ℕ) {churn : ℕ}
    → churn ≡ get_consolidation_churn_limit S (plain_books b)
    → churn
    ≡ get_consolidation_churn_limit S (books_of b.scalars (tables b.identities.now b.validators.now ds ps cs))
unfolding
    get_total_active_balance get_balance_churn_limit get_activation_exit_churn_limit get_consolidation_churn_limit
    books_of
churn_known S b ds ps cs e = e

module _ (S : Settings) (s : Scalars) (t : Tables) (source target epoch : ℕ) (valid : Bool) where
  abbrev pub pair_read : ℕ
  pair_read =
      pair_refusal s.epoch.0 (at (books_of s t).validators source) (at (books_of s t).validators target)
      epoch valid

  by_parts : consolidation_refusal S (books_of s t) source target epoch valid
      ≡ index_refusal S (length (books_of s t).pending_consolidations) (get_consolidation_churn_limit S (books_of s t))
      (count (books_of s t)) source target pair_read
  unfolding consolidation_refusal index_refusal pair_refusal books_of
  by_parts = refl

  -- the churn is known
  pub consolidation_tests : (churn : ℕ) → churn ≡ get_consolidation_churn_limit S (books_of s t) → {n : ℕ}
      → n ≡ index_refusal S s.consolidations churn s.validators source target pair_read
      → n ≡ consolidation_refusal S (books_of s t) source target epoch valid
  consolidation_tests churn known e =
      rw by_parts (rw (consolidations_count s t, ← known, validators_count s t) e)

  -- source and target were read as v and w
  pub pair_known : (v w : Validator) → source < s.validators → target < s.validators
      → v ≡ validator_at t.identities t.validators source
      → w ≡ validator_at t.identities t.validators target
      → {n : ℕ} → n ≡ pair_refusal s.epoch.0 v w epoch valid → n ≡ pair_read
  pair_known v w below below₂ p q e =
      rw (validator_read s t source below ∙ sym p, validator_read s t target below₂ ∙ sym q) e

  -- what a consolidation that passed them is
  pub consolidation_allowed : consolidation_refusal S (books_of s t) source target epoch valid ≡ 0
      → (s.consolidations < S.pending_consolidations_limit)
      × (0 < get_consolidation_churn_limit S (books_of s t))
      × (source < s.validators)
  unfolding consolidation_refusal
  consolidation_allowed e =
      let churn = get_consolidation_churn_limit S (books_of s t) in
      let queued = length (books_of s t).pending_consolidations in
      let p = passed (leb S.pending_consolidations_limit queued) (omega arith) e in
      let q = passed (leb churn S.min_activation_balance) (omega arith) p.1 in
      let r = passed (eqb source target) (omega arith) q.1 in
      let k = passed (not (ltb source (count (books_of s t)))) (omega arith) r.1 in (
        omega (arith, consolidations_count s t, leb-false S.pending_consolidations_limit queued p.0),
        omega (arith, leb-false churn S.min_activation_balance q.0),
        omega (arith, validators_count s t, ltb-true source (count (books_of s t)) (not_not _ k.0)),
      )

-- ---- what it stores

-- the rule, where the assignment is known
unfoldable pub begin_consolidation : Settings → (source target : ℕ) → Assignment → Books → Books
begin_consolidation S source target a b =
    let exiting = with_exit a.epoch (a.epoch + S.min_validator_withdrawability_delay) in
    let entry : PendingConsolidation = record { source_index = source; target_index = target } in
    with_consolidation_churn a.left a.epoch
    (with_pending_consolidations (b.pending_consolidations ++ (entry ∷ []))
    (with_validators (adjust source exiting b.validators) b))

in_steps : (S : Settings) (source target : ℕ) (b : Books)
    → process_consolidation S source target b
    ≡ begin_consolidation S source target
    (compute_consolidation_epoch_and_update_churn S b (at b.validators source).effective_balance) b
unfolding process_consolidation begin_consolidation
in_steps S source target b = refl

module _ (S : Settings) (s : Scalars) (source target : ℕ) (a : Assignment) (vs us cs ds : List ℕ) where
  stored : source < s.validators
      → ValidatorAdjusted source (with_exit a.epoch (a.epoch + S.min_validator_withdrawability_delay)) vs us
      → ConsolidationPushed s.consolidations (record { source_index = source; target_index = target }) cs ds
      → (ids es ps : List ℕ)
      → Stepped (begin_consolidation S source target a) s (tables ids vs es ps cs) (tables ids us es ps ds)
      (scalars.with_consolidations (scalars.with_consolidation_churn s a.left a.epoch) (s.consolidations + 1))
  unfolding begin_consolidation books_of
  stored h v q ids es ps = record {
    books = rw (v.validators ids s.validators, q.records);
    beyond = record {
      identities = refl;
      validators = v.past s.validators h;
      deposits = refl;
      partials = refl;
      consolidations = q.past;
    };
  }

  pub consolidation_stepped : {r : Scalars} (ids es ps : List ℕ) → source < s.validators
      → ValidatorAdjusted source (with_exit a.epoch (a.epoch + S.min_validator_withdrawability_delay)) vs us
      → ConsolidationPushed s.consolidations (record { source_index = source; target_index = target }) cs ds
      → r
      ≡ scalars.with_consolidations (scalars.with_consolidation_churn s a.left a.epoch) (s.consolidations + 1)
      → a ≡ compute_consolidation_epoch_and_update_churn S (books_of s (tables ids vs es ps cs))
      (at (books_of s (tables ids vs es ps cs)).validators source).effective_balance
      → Stepped (process_consolidation S source target) s (tables ids vs es ps cs) (tables ids us es ps ds) r
  consolidation_stepped ids es ps h v q e same =
      let b = books_of s (tables ids vs es ps cs) in
      let d = stored h v q ids es ps in
      rw e (record {
        books =
            d.books
            ∙ ap (λ (x : Assignment). begin_consolidation S source target x b) same
            ∙ sym (in_steps S source target b);
        beyond = d.beyond;
      })

-- ---- the assignment, and the size of the result

module _ (S : Settings) (s : Scalars) (t : Tables) (source : ℕ) (known : source < s.validators) where
  -- by a churn and an amount that were read
  pub consolidation_assigned : (a : Assignment) (churn amount : ℕ)
      → churn ≡ get_consolidation_churn_limit S (books_of s t)
      → amount ≡ effective_balance_at t.validators source
      → a ≡ consolidation_assignment S (books_of s t) churn amount
      → a ≡ compute_consolidation_epoch_and_update_churn S (books_of s t)
      (at (books_of s t).validators source).effective_balance
  consolidation_assigned a churn amount p q e =
      let b = books_of s t in
      let read : amount ≡ (at b.validators source).effective_balance =
      q ∙ sym (ap (λ (x : Validator). x.effective_balance) (validator_read s t source known)) in
      e
      ∙ ap (λ (n : ℕ). consolidation_assignment S b n amount) p
      ∙ consolidation_by_churn S b amount
      ∙ ap (compute_consolidation_epoch_and_update_churn S b) read

  module _ (σ : SoundSettings S) (k : SoundBooks S (books_of s t)) (target : ℕ) (a : Assignment)
      (same : a ≡ compute_consolidation_epoch_and_update_churn S (books_of s t)
      (at (books_of s t).validators source).effective_balance) where
    number : size_refusal S (process_consolidation S source target (books_of s t))
        ≡ size_number true true (leb (a.epoch + S.min_validator_withdrawability_delay) BOUND)
    number =
        consolidation_size S σ (books_of s t) k source target (omega (arith, validators_count s t))
        ∙ ap
        (λ (x : Assignment). size_number true true (leb (x.epoch + S.min_validator_withdrawability_delay) BOUND))
        (sym same)

    pub consolidation_over : BOUND < a.epoch + S.min_validator_withdrawability_delay
        → 42 ≡ size_refusal S (process_consolidation S source target (books_of s t))
    consolidation_over h = sym (number ∙ ap (size_number true true) (lt-leb _ BOUND h))

    pub consolidation_within : a.epoch + S.min_validator_withdrawability_delay ≤ BOUND
        → 0 ≡ size_refusal S (process_consolidation S source target (books_of s t))
    consolidation_within h = sym (number ∙ ap (size_number true true) (le-leb _ BOUND h))
