-- The parts of a withdrawal request, by what the code decides before it stores.
use Rattle.std.specs.Prelude.{◌≡◌, Bool, false, ◌&&◌, List, [], ◌∷◌, ◌++◌, ℕ, ◌+◌, ◌-◌, ◌≤◌, ◌<◌, min, length, ltb}
use Rattle.std.proofs.Math.Path.{refl, sym, ap, ap₂}
use Rattle.std.proofs.Common.{◌∙◌, ltb-true, ltb-false, eqb-true, le-leb, eq-eqb, ne_eqb}
use Rattle.std.proofs.Math.Bool.{true, not}
use native.Mathlib.Omega.{arith}
use Rattle.std.proofs.Math.Dec.{leb, eqb}
use Rattle.std.proofs.lemmas.Bool.{lt-leb}
use Rattle.lists.specs.Base.{when◌then◌else◌, same_bytes}
use Rattle.lists.specs.Laws.{both, join}
use Rattle.tables.specs.Totals.{total_at_most}
use Rattle.rules.specs.Types.{FAR, BOUND, Settings, Validator, PendingPartialWithdrawal, Books}
use Rattle.rules.specs.Update.{with_exit_churn, with_pending_partial_withdrawals}
use Rattle.rules.specs.Helpers.{at, count, position, withdrawal_address, is_active_validator, Assignment}
use Rattle.rules.specs.Helpers.{has_execution_withdrawal_credential, has_compounding_withdrawal_credential}
use Rattle.rules.specs.Helpers.{get_pending_balance_to_withdraw, compute_exit_epoch_and_update_churn}
use Rattle.rules.specs.Helpers.{initiate_validator_exit}
use Rattle.rules.specs.BlockProcessing.{request_partial_withdrawal, process_execution_layer_withdrawal_request}
use Rattle.rules.specs.Acceptance.{partial_amounts}
use Rattle.rules.specs.Calls.{size_refusal}
use Rattle.rule_laws.specs.Accepted.{SoundSettings, SoundBooks}
use Rattle.result_sizes.specs.Size.{size_number}
use Rattle.result_sizes.specs.Block.{request_size}
use Rattle.primitives.specs.declared.Scalars.{Scalars}
use Rattle.primitives.specs.Scalars as scalars
use Rattle.records.specs.Layout.{validator_at, balance_at}
use Rattle.records.specs.Queues.{PartialPushed}
use Rattle.records.specs.Books.{Tables, tables, books_of, Stepped}
use Rattle.records.specs.Reading.{validators_count, partials_count, validator_read, epoch_read}
use Rattle.acceptance.specs.Laws.{leb_shift}
use Rattle.call_answers.specs.Tests.{fails, passes}

-- ---- tests

-- validator v may request a withdrawal from this address
unfoldable pub may_request : Settings → (current_epoch : ℕ) → Validator → List ℕ → Bool
may_request S current_epoch v source_address =
    when not (has_execution_withdrawal_credential v && same_bytes (withdrawal_address v) source_address) then false
    else when not (is_active_validator current_epoch v) then false
    else when not (eqb v.exit_epoch FAR) then false
    else not (ltb current_epoch (v.activation_epoch + S.shard_committee_period))

-- a balance of which something can be withdrawn
unfoldable pub has_excess : Settings → Validator → (pending : ℕ) → Bool
has_excess S v pending =
    has_compounding_withdrawal_credential v
    && leb S.min_activation_balance v.effective_balance
    && ltb (S.min_activation_balance + pending) v.balance

-- how much of it
unfoldable pub to_withdraw : Settings → Validator → (pending amount : ℕ) → ℕ
to_withdraw S v pending amount = min (v.balance - (S.min_activation_balance + pending)) amount

pub excess_above : (S : Settings) (v : Validator) (pending : ℕ) → has_excess S v pending ≡ true
    → S.min_activation_balance + pending < v.balance
unfolding has_excess
excess_above S v pending e =
    ltb-true (S.min_activation_balance + pending) v.balance
    (both
    (has_compounding_withdrawal_credential v && leb S.min_activation_balance v.effective_balance)
    (ltb (S.min_activation_balance + pending) v.balance) e).1

-- the third of four tests that passed
third : (p q r s : Bool)
    → (when not p then false else when not q then false else when not r then false else not s) ≡ true → r ≡ true
unfolding when◌then◌else◌
third true true true s e = refl
third true true false s e = e
third true false r s e = cc
third false q r s e = cc

pub may_far : (S : Settings) (current_epoch : ℕ) (v : Validator) (source_address : List ℕ)
    → may_request S current_epoch v source_address ≡ true → v.exit_epoch ≡ FAR
unfolding may_request
may_far S current_epoch v source_address e =
    eqb-true v.exit_epoch FAR
    (third
    (has_execution_withdrawal_credential v && same_bytes (withdrawal_address v) source_address)
    (is_active_validator current_epoch v) (eqb v.exit_epoch FAR)
    (ltb current_epoch (v.activation_epoch + S.shard_committee_period)) e)

-- a request with an amount finds the queue not full
pub queue_room : (queued limit amount : ℕ) → (eqb queued limit && not (eqb amount 0)) ≡ false → (amount ≡ 0 → ⊥)
    → queued ≡ limit → ⊥
queue_room queued limit amount e some same =
    let z : true ≡ false = sym (join (eq-eqb queued limit same) (ap not (ne_eqb amount 0 some))) ∙ e in
    let one : ◌≡◌ {A = ℕ} 0 1 = cc in
    omega arith

-- the code's last test
pub not_later : (x y : ℕ) → leb x y ≡ not (ltb y x)
not_later x y = go (ltb y x) refl
  where
    go : (t : Bool) → ltb y x ≡ t → leb x y ≡ not t
    go true e = lt-leb x y (ltb-true y x e)
    go false e = le-leb x y (ltb-false y x e)

-- ---- steps

unfoldable pub request_full_exit : Settings → ℕ → Books → Books
request_full_exit S i b = when eqb (get_pending_balance_to_withdraw b i) 0 then initiate_validator_exit S i b else b

-- where the assignment is known
unfoldable pub queue_with : Settings → (i amount : ℕ) → Assignment → Books → Books
queue_with S i amount a b =
    let entry : PendingPartialWithdrawal = record {
      index = i;
      amount = amount;
      withdrawable_epoch = a.epoch + S.min_validator_withdrawability_delay;
    } in
    with_exit_churn a.left a.epoch
    (with_pending_partial_withdrawals (b.pending_partial_withdrawals ++ (entry ∷ [])) b)

unfoldable pub queue_partial_withdrawal : Settings → (i amount : ℕ) → Books → Books
queue_partial_withdrawal S i amount b = queue_with S i amount (compute_exit_epoch_and_update_churn S b amount) b

-- ---- the rules by these parts

-- four tests that each leave x
four : {A : Type 0} (p q r s : Bool) (x y : A)
    → (when not p then x else when not q then x else when not r then x else when s then x else y)
    ≡ (when not (when not p then false else when not q then false else when not r then false else not s) then x else y)
unfolding when◌then◌else◌
four false q r s x y = refl
four true false r s x y = refl
four true true false s x y = refl
four true true true true x y = refl
four true true true false x y = refl

module _ (S : Settings) (b : Books) where
  partial_by_parts : (i amount : ℕ)
      → request_partial_withdrawal S i amount b
      ≡ (let v = at b.validators i in
      let pending = get_pending_balance_to_withdraw b i in
      when has_excess S v pending then queue_partial_withdrawal S i (to_withdraw S v pending amount) b else b)
  unfolding request_partial_withdrawal has_excess queue_with queue_partial_withdrawal to_withdraw
  partial_by_parts i amount = refl

  request_by_parts : (source_address public_key : List ℕ) (amount : ℕ)
      → process_execution_layer_withdrawal_request S source_address public_key amount b
      ≡ (let i = position public_key b.validators in
      when eqb (length b.pending_partial_withdrawals) S.pending_partial_withdrawals_limit && not (eqb amount 0)
      then b
      else when not (ltb i (count b)) then b
      else when not (may_request S b.epoch (at b.validators i) source_address) then b
      else when eqb amount 0 then request_full_exit S i b
      else request_partial_withdrawal S i amount b)
  unfolding process_execution_layer_withdrawal_request may_request request_full_exit
  request_by_parts source_address public_key amount =
      let i = position public_key b.validators in
      let v = at b.validators i in
      let rest : Books = when eqb amount 0 then request_full_exit S i b else request_partial_withdrawal S i amount b in
      ap
      (λ (x : Books).
      when eqb (length b.pending_partial_withdrawals) S.pending_partial_withdrawals_limit && not (eqb amount 0)
      then b
      else when not (ltb i (count b)) then b
      else x)
      (four (has_execution_withdrawal_credential v && same_bytes (withdrawal_address v) source_address)
      (is_active_validator b.epoch v) (eqb v.exit_epoch FAR)
      (ltb b.epoch (v.activation_epoch + S.shard_committee_period)) b rest)

-- ---- on tables

module _ (S : Settings) (s : Scalars) (t : Tables) (source_address public_key : List ℕ) (amount i : ℕ)
    (found : i ≡ position public_key (books_of s t).validators) where
  -- what the request comes to where the queue has room for it
  abbrev requested : Books
  requested =
      when not (ltb i s.validators) then books_of s t
      else when not (may_request S s.epoch.0 (at (books_of s t).validators i) source_address) then books_of s t
      else when eqb amount 0 then request_full_exit S i (books_of s t)
      else request_partial_withdrawal S i amount (books_of s t)

  pub request_read : {x : Books}
      → x ≡ (when eqb s.partials S.pending_partial_withdrawals_limit && not (eqb amount 0) then books_of s t
      else requested)
      → x ≡ process_execution_layer_withdrawal_request S source_address public_key amount (books_of s t)
  unfolding books_of
  request_read e =
      rw (request_by_parts S (books_of s t) source_address public_key amount)
      (rw (← found) (rw (partials_count s t, validators_count s t, epoch_read s t) e))

module _ (S : Settings) (s : Scalars) (t : Tables) (i : ℕ) (known : i < s.validators) (v : Validator) (pending : ℕ)
    (read : v ≡ validator_at t.identities t.validators i)
    (owed : pending ≡ get_pending_balance_to_withdraw (books_of s t) i) (amount : ℕ) where
  partial_read : {x : Books}
      → x ≡ (when has_excess S v pending
      then queue_partial_withdrawal S i (to_withdraw S v pending amount) (books_of s t)
      else books_of s t)
      → x ≡ request_partial_withdrawal S i amount (books_of s t)
  partial_read e =
      rw (partial_by_parts S (books_of s t) i amount) (rw (validator_read s t i known ∙ sym read, ← owed) e)

  pub partial_none : has_excess S v pending ≡ false
      → books_of s t ≡ request_partial_withdrawal S i amount (books_of s t)
  partial_none e = partial_read (passes _ _ e refl)

  pub partial_some : has_excess S v pending ≡ true
      → queue_partial_withdrawal S i (to_withdraw S v pending amount) (books_of s t)
      ≡ request_partial_withdrawal S i amount (books_of s t)
  partial_some e = partial_read (fails _ _ e)

module _ (S : Settings) (s : Scalars) (t : Tables) (i : ℕ) where
  pub full_exit_none : {pending : ℕ} → pending ≡ get_pending_balance_to_withdraw (books_of s t) i
      → eqb pending 0 ≡ false → books_of s t ≡ request_full_exit S i (books_of s t)
  unfolding request_full_exit
  full_exit_none owed e = rw (← owed) (passes _ _ e refl)

  pub full_exit_some : {pending : ℕ} → pending ≡ get_pending_balance_to_withdraw (books_of s t) i
      → eqb pending 0 ≡ true → initiate_validator_exit S i (books_of s t) ≡ request_full_exit S i (books_of s t)
  unfolding request_full_exit
  full_exit_some owed e = rw (← owed) (fails _ _ e)

  -- a balance is at most what is held
  pub balance_small : i < s.validators → SoundBooks S (books_of s t) → balance_at t.validators i ≤ BOUND
  unfolding books_of
  balance_small known k =
      omega (
        arith,
        k.held_small,
        total_at_most (λ v. v.balance) s.validators (validator_at t.identities t.validators) i known,
      )

-- ---- the queue's new entry

module _ (S : Settings) (s : Scalars) (i amount : ℕ) (a : Assignment) (ps us : List ℕ) where
  stored : PartialPushed s.partials
      (record {
        index = i;
        amount = amount;
        withdrawable_epoch = a.epoch + S.min_validator_withdrawability_delay;
      })
      ps us
      → (ids vs ds cs : List ℕ)
      → Stepped (queue_with S i amount a) s (tables ids vs ds ps cs) (tables ids vs ds us cs)
      (scalars.with_partials (scalars.with_exit_churn s a.left a.epoch) (s.partials + 1))
  unfolding queue_with books_of
  stored q ids vs ds cs = record {
    books = rw q.records;
    beyond = record {
      identities = refl;
      validators = refl;
      deposits = refl;
      partials = q.past;
      consolidations = refl;
    };
  }

  pub partial_stepped : {r : Scalars} (ids vs ds cs : List ℕ)
      → PartialPushed s.partials
      (record {
        index = i;
        amount = amount;
        withdrawable_epoch = a.epoch + S.min_validator_withdrawability_delay;
      })
      ps us
      → r ≡ scalars.with_partials (scalars.with_exit_churn s a.left a.epoch) (s.partials + 1)
      → a ≡ compute_exit_epoch_and_update_churn S (books_of s (tables ids vs ds ps cs)) amount
      → Stepped (queue_partial_withdrawal S i amount) s (tables ids vs ds ps cs) (tables ids vs ds us cs) r
  unfolding queue_partial_withdrawal
  partial_stepped ids vs ds cs q e same =
      let d = stored q ids vs ds cs in
      rw e (record {
        books = d.books ∙ ap (λ (x : Assignment). queue_with S i amount x (books_of s (tables ids vs ds ps cs))) same;
        beyond = d.beyond;
      })

module _ (S : Settings) (σ : SoundSettings S) (s : Scalars) (t : Tables) (k : SoundBooks S (books_of s t))
    (i amount sum : ℕ) (a : Assignment) where
  pub request_number : amount ≤ BOUND → sum ≡ partial_amounts (books_of s t)
      → a ≡ compute_exit_epoch_and_update_churn S (books_of s t) amount
      → size_number true (leb sum (BOUND - amount)) (leb (a.epoch + S.min_validator_withdrawability_delay) BOUND)
      ≡ size_refusal S (queue_partial_withdrawal S i amount (books_of s t))
  unfolding queue_with queue_partial_withdrawal
  request_number small summed assigned =
      ap₂
      (λ (p : Bool) (x : Assignment).
      size_number true p (leb (x.epoch + S.min_validator_withdrawability_delay) BOUND))
      (leb_shift sum amount BOUND small ∙ ap (λ (n : ℕ). leb (n + amount) BOUND) summed)
      assigned
      ∙ sym (request_size S σ (books_of s t) k i amount small)
