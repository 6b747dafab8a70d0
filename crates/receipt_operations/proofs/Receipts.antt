-- What the parts of a deposit receipt do to the books.
use Rattle.std.specs.Prelude.{◌≡◌, Bool, ◌&&◌, List, [], ℕ, ◌+◌, ◌≤◌, ◌<◌, length, leb, ltb}
use Rattle.std.proofs.Math.Path.{refl, sym, ap, ap₂}
use Rattle.std.proofs.Common.{◌∙◌, arith, lt-ltb, le-ltb}
use Rattle.std.proofs.Math.Bool.{true, false}
use Rattle.lists.specs.Base.{when◌then◌else◌}
use Rattle.lists.specs.Laws.{by_test, if_true, both}
use Rattle.tables.specs.Rows.{length_rows}
use Rattle.rules.specs.Types.{BOUND, Settings, Validator, Books}
use Rattle.rules.specs.Helpers.{at, count, position, queue_deposit, has_eth1_withdrawal_credential}
use Rattle.rules.specs.Helpers.{is_compounding_withdrawal_credential, switch_to_compounding_validator}
use Rattle.rules.specs.BlockProcessing.{switches, apply_deposit, add_validator_to_registry}
use Rattle.rules.specs.BlockProcessing.{get_validator_from_deposit}
use Rattle.rules.specs.Acceptance.{held}
use Rattle.rules.specs.Calls.{size_refusal}
use Rattle.rules.specs.Counting.{excess_entry}
use Rattle.rule_laws.specs.Accepted.{SoundBooks}
use Rattle.result_sizes.specs.Size.{size_number}
use Rattle.result_sizes.specs.Receipts.{known_size, added_size}
use Rattle.primitives.specs.declared.Scalars.{Scalars}
use Rattle.primitives.specs.Scalars as scalars
use Rattle.records.specs.Layout.{validator_at, deposits_fit}
use Rattle.records.specs.Stores.{ValidatorPushed}
use Rattle.records.specs.Queues.{DepositPushed}
use Rattle.records.specs.Books.{Tables, tables, books_of, Stepped, AtMost, beyond_then, validators_of}
use Rattle.records.specs.Reading.{validators_count, deposits_count, validator_read}
use Rattle.compounding.specs.Laws.{excess_entry_count, entries_some}
use Rattle.call_answers.specs.Tests.{fails, passes}
use Rattle.receipt_operations.specs.Receipts.{known_deposit}

pub few_entries : (minimum balance : ℕ) (switch : Bool)
    → (when switch then excess_entry_count minimum balance else 0) ≤ 1
few_entries minimum balance switch =
    let P : ℕ → Type 0 = λ n. n ≤ 1 in
    by_test P switch (λ e. by_test P _ (λ f. omega arith) (λ f. omega arith)) (λ e. omega arith)

module _ (S : Settings) (s : Scalars) (t : Tables) (i : ℕ) (known : i < s.validators) (v : Validator)
    (read : v ≡ validator_at t.identities t.validators i) where
  at_read : at (books_of s t).validators i ≡ v
  at_read = validator_read s t i known ∙ sym read

  -- how many entries the switch queues
  pub entries_known : has_eth1_withdrawal_credential v ≡ true
      → length (excess_entry S i (books_of s t)) ≡ excess_entry_count S.min_activation_balance v.balance
  entries_known e =
      entries_some S i (books_of s t) (ap has_eth1_withdrawal_credential at_read ∙ e)
      ∙ ap (λ (w : Validator). excess_entry_count S.min_activation_balance w.balance) at_read

  more : (switch : Bool) → (switch ≡ true → has_eth1_withdrawal_credential v ≡ true)
      → (when switch then excess_entry_count S.min_activation_balance v.balance else 0)
      ≡ length (when switch then excess_entry S i (books_of s t) else [])
  unfolding when◌then◌else◌
  more true h = sym (entries_known (h refl))
  more false h = refl

  pub known_number : SoundBooks S (books_of s t) → (amount entries : ℕ) (switch : Bool)
      → (switch ≡ true → has_eth1_withdrawal_credential v ≡ true)
      → entries ≡ (when switch then excess_entry_count S.min_activation_balance v.balance else 0)
      → size_number (leb (s.deposits + 1 + entries) S.pending_balance_deposits_limit)
      (leb (held (books_of s t) + amount) BOUND) true
      ≡ size_refusal S (known_deposit S i amount switch (books_of s t))
  unfolding known_deposit
  known_number k amount entries switch h e =
      ap₂
      (λ (n m : ℕ).
      size_number (leb (n + 1 + m) S.pending_balance_deposits_limit) (leb (held (books_of s t) + amount) BOUND) true)
      (sym (deposits_count s t)) (e ∙ more switch h)
      ∙ sym (known_size S (books_of s t) k i amount switch (omega (arith, validators_count s t)))

-- the switch's entry finds room behind the deposit's own
pub switch_room : (S : Settings) (s q : Scalars) (i : ℕ) → i < s.validators → (v : Validator) (ids vs ds us : List ℕ)
    → v ≡ validator_at ids vs i → has_eth1_withdrawal_credential v ≡ true → (entries : ℕ) (switch : Bool)
    → switch ≡ true → entries ≡ (when switch then excess_entry_count S.min_activation_balance v.balance else 0)
    → s.deposits + 1 + entries ≤ deposits_fit ds → length us ≡ length ds
    → q ≡ scalars.with_deposits s (s.deposits + 1) → (ps cs : List ℕ)
    → q.deposits + length (excess_entry S i (books_of q (tables ids vs us ps cs))) ≤ deposits_fit us
switch_room S s q i known v ids vs ds us read eth1 entries switch on e room kept grown ps cs =
    let after : Scalars = scalars.with_deposits s (s.deposits + 1) in
    let counted = entries_known S after (tables ids vs us ps cs) i known v read eth1 in
    rw grown (omega (arith, counted, e ∙ if_true switch _ 0 on, room, kept))

-- the stores
module _ (S : Settings) (s : Scalars) (i amount : ℕ) (ids vs ds us : List ℕ)
    (pushed : DepositPushed s.deposits (record { index = i; amount = amount }) ds us) (ps cs : List ℕ) where
  abbrev queued : Scalars
  queued = scalars.with_deposits s (s.deposits + 1)

  pub queue_stepped : Stepped (queue_deposit i amount) s (tables ids vs ds ps cs) (tables ids vs us ps cs) queued
  unfolding books_of
  queue_stepped = record {
    books = rw pushed.records;
    beyond = record {
      identities = refl;
      validators = refl;
      deposits = pushed.past;
      partials = refl;
      consolidations = refl;
    };
  }

  pub known_stepped : {r : Scalars} (switch : Bool) → switch ≡ false → r ≡ queued
      → Stepped (known_deposit S i amount switch) s (tables ids vs ds ps cs) (tables ids vs us ps cs) r
  unfolding known_deposit when◌then◌else◌
  known_stepped switch off e = rw (off, e) queue_stepped

  switched : {q r : Scalars} {u : Tables} (more : ℕ) → q ≡ queued → r ≡ scalars.with_deposits q (q.deposits + more)
      → Stepped (switch_to_compounding_validator S i) q (tables ids vs us ps cs) u r
      → Stepped (known_deposit S i amount true) s (tables ids vs ds ps cs) u r
  unfolding known_deposit when◌then◌else◌
  switched {q} {r} {u} more e grown d =
      let first : Stepped (queue_deposit i amount) s (tables ids vs ds ps cs) (tables ids vs us ps cs) q =
      rw e queue_stepped in
      let counts : AtMost q r = rw grown (record {
        validators = omega arith;
        deposits = omega arith;
        partials = omega arith;
        consolidations = omega arith;
      }) in
      record {
        books = d.books ∙ ap (switch_to_compounding_validator S i) first.books;
        beyond = beyond_then counts first.beyond d.beyond;
      }

  pub switch_stepped : {q r : Scalars} {u : Tables} (switch : Bool) → switch ≡ true → (more : ℕ) → q ≡ queued
      → r ≡ scalars.with_deposits q (q.deposits + more)
      → Stepped (switch_to_compounding_validator S i) q (tables ids vs us ps cs) u r
      → Stepped (known_deposit S i amount switch) s (tables ids vs ds ps cs) u r
  switch_stepped switch on more e grown d = rw on (switched more e grown d)

-- ---- an unknown key

module _ (S : Settings) (s : Scalars) (t : Tables) where
  pub added_number : SoundBooks S (books_of s t) → (public_key withdrawal_credentials : List ℕ) (amount : ℕ)
      → size_number
      (leb (s.validators + 1) S.validator_registry_limit
      && leb (s.deposits + 1) S.pending_balance_deposits_limit)
      (leb (held (books_of s t) + amount) BOUND) true
      ≡ size_refusal S (add_validator_to_registry public_key withdrawal_credentials amount (books_of s t))
  added_number k public_key withdrawal_credentials amount =
      ap₂
      (λ (n m : ℕ).
      size_number
      (leb (n + 1) S.validator_registry_limit && leb (m + 1) S.pending_balance_deposits_limit)
      (leb (held (books_of s t) + amount) BOUND) true)
      (sym (validators_count s t)) (sym (deposits_count s t))
      ∙ sym (added_size S (books_of s t) k public_key withdrawal_credentials amount)

pub added_stepped : (s : Scalars) (public_key withdrawal_credentials : List ℕ) (amount : ℕ)
    (ids vs ds new_ids new_vs new_ds : List ℕ) {r : Scalars} {v : Validator}
    → v ≡ get_validator_from_deposit public_key withdrawal_credentials
    → ValidatorPushed s.validators v ids vs new_ids new_vs
    → DepositPushed s.deposits (record { index = s.validators; amount = amount }) ds new_ds
    → r ≡ scalars.with_deposits (scalars.with_validators s (s.validators + 1)) (s.deposits + 1)
    → (ps cs : List ℕ)
    → Stepped (add_validator_to_registry public_key withdrawal_credentials amount) s (tables ids vs ds ps cs)
    (tables new_ids new_vs new_ds ps cs) r
unfolding add_validator_to_registry books_of
added_stepped s public_key withdrawal_credentials amount ids vs ds new_ids new_vs new_ds made v d e ps cs =
    let counted : length (validators_of s ids vs) ≡ s.validators =
    length_rows s.validators (validator_at ids vs) in
    rw e (record {
      books = rw counted (rw (v.validators, d.records, made));
      beyond = record {
        identities = v.identities_past;
        validators = v.validators_past;
        deposits = d.past;
        partials = refl;
        consolidations = refl;
      };
    })

-- ---- the rule by these parts

module _ (S : Settings) (s : Scalars) (t : Tables) (public_key withdrawal_credentials : List ℕ) (amount : ℕ)
    (valid : Bool) (i : ℕ) (found : i ≡ position public_key (books_of s t).validators) where
  by_parts : apply_deposit S public_key withdrawal_credentials amount valid (books_of s t)
      ≡ (let p = position public_key (books_of s t).validators in
      when ltb p (count (books_of s t))
      then known_deposit S p amount (switches withdrawal_credentials valid (at (books_of s t).validators p))
      (books_of s t)
      else when valid then add_validator_to_registry public_key withdrawal_credentials amount (books_of s t)
      else books_of s t)
  unfolding apply_deposit known_deposit
  by_parts = refl

  pub apply_known : (v : Validator) → i < s.validators → v ≡ validator_at t.identities t.validators i
      → known_deposit S i amount (switches withdrawal_credentials valid v) (books_of s t)
      ≡ apply_deposit S public_key withdrawal_credentials amount valid (books_of s t)
  apply_known v known read =
      rw by_parts
      (rw (← found)
      (rw (validator_read s t i known ∙ sym read)
      (fails _ _ (lt-ltb i (count (books_of s t)) (omega (arith, validators_count s t))))))

  pub apply_unknown : {x : Books} → s.validators ≤ i
      → x
      ≡ (when valid then add_validator_to_registry public_key withdrawal_credentials amount (books_of s t)
      else books_of s t)
      → x ≡ apply_deposit S public_key withdrawal_credentials amount valid (books_of s t)
  apply_unknown unknown e =
      rw by_parts
      (rw (← found) (passes _ _ (le-ltb i (count (books_of s t)) (omega (arith, validators_count s t))) e))

-- a switch is one of a validator with an 01 credential
pub switches_eth1 : (withdrawal_credentials : List ℕ) (valid : Bool) (v : Validator)
    → switches withdrawal_credentials valid v ≡ true → has_eth1_withdrawal_credential v ≡ true
switches_eth1 withdrawal_credentials valid v e =
    let compounding = is_compounding_withdrawal_credential withdrawal_credentials in
    let eth1 = has_eth1_withdrawal_credential v in
    (both compounding eth1 (both (compounding && eth1) valid e).0).1
