-- What the tests of a result's size (40, 41, 42) do not look at is kept by every rule.
use Rattle.std.specs.Prelude.{◌≡◌, Bool, true, ◌&&◌, ltb}
use Rattle.std.proofs.Math.Path.{refl}
use Rattle.std.proofs.Common.{ap, ◌∙◌}
use Rattle.std.proofs.Math.Bool.{false, not}
use mathlib.Core.List.{List, [], ◌∷◌, ◌++◌}
use Prim.Native.Nat.{ℕ, suc, ◌+◌, ◌≤◌, ◌<◌}
use native.Mathlib.Omega.{arith}
use Rattle.std.proofs.Math.ListN.{length, length-append, length-drop, length-map}
use Rattle.std.proofs.Math.Dec.{leb, eqb}
use borrow.Author.Tests.{ltb-true, leb-false, eqb-false, le-leb, lt-ltb}
use Rattle.lists.specs.Base.{adjust, every, empty}
use Rattle.lists.specs.Laws.{by_test, both, join, not_not, passed, length_adjust, total_append}
use Rattle.lists.specs.Laws.{every_append, every_adjust, every_drop, every_map, every_weaken}
use Rattle.rules.specs.Types.{BOUND, Settings, Validator, Withdrawal, Books}
use Rattle.rules.specs.Types.{PendingBalanceDeposit, PendingPartialWithdrawal, PendingConsolidation}
use Rattle.rules.specs.Update.{with_exit, with_validators, with_pending_consolidations}
use Rattle.rules.specs.Helpers.{at, count, position, increased, decreased, queue_deposit}
use Rattle.rules.specs.Helpers.{get_validator_max_effective_balance}
use Rattle.rules.specs.Helpers.{get_activation_exit_churn_limit, get_consolidation_churn_limit}
use Rattle.rules.specs.Helpers.{compute_activation_exit_epoch}
use Rattle.rules.specs.Helpers.{compute_exit_epoch_and_update_churn, compute_consolidation_epoch_and_update_churn}
use Rattle.rules.specs.Helpers.{initiate_validator_exit, switch_to_compounding_validator}
use Rattle.rules.specs.EpochProcessing.{process_pending_balance_deposits, move_active_balance, consolidate}
use Rattle.rules.specs.EpochProcessing.{process_consolidations, process_pending_consolidations, needs_update, updated}
use Rattle.rules.specs.EpochProcessing.{process_effective_balance_updates, turn}
use Rattle.rules.specs.BlockProcessing.{expected_partial_withdrawals, process_withdrawals, get_validator_from_deposit}
use Rattle.rules.specs.BlockProcessing.{add_validator_to_registry, apply_deposit, process_voluntary_exit}
use Rattle.rules.specs.BlockProcessing.{request_partial_withdrawal, process_execution_layer_withdrawal_request}
use Rattle.rules.specs.BlockProcessing.{start_receipts, process_deposit_receipt}
use Rattle.rules.specs.BlockProcessing.{consolidation_refusal, process_consolidation}
use Rattle.rules.specs.Acceptance.{deposit_amounts, held, effective_within, is_flag}
use Rattle.rules.specs.Acceptance.{deposit_in, partial_in, consolidation_in}
use Rattle.rules.specs.Calls as calls
use Rattle.rules.specs.Calls.{Operation, own_refusal, result}
use Rattle.rules.specs.Counting.{excess_entry}
use Rattle.rule_laws.specs.Accepted.{SoundSettings, SoundBooks}
use Rattle.rule_laws.specs.Churn.{activation_exit_churn_small, consolidation_churn_small, assigned_left}
use Rattle.rule_laws.specs.Deposits.{affordable_prefix, affordable_rest, credit_length, credit_every}
use Rattle.rule_laws.specs.Deposits.{credited_now, waiting_still, carry_over, deposit_step_form}
use Rattle.rule_laws.specs.Switch.{switched, switch_form}
use Rattle.rule_laws.specs.Withdrawals.{pay_length, pay_every, next_validator_in}
use Rattle.conservation.specs.Proofs.Steps.{deposit_amount}

-- ---- what is kept, n being the count of validators

pub record Registry (S : Settings) (n : ℕ) (vs : List Validator) : Type 0 where
  pub size : length vs ≡ n
  pub effective : every (effective_within S) vs ≡ true
  pub flags : every is_flag vs ≡ true

pub record Queues (S : Settings) (n cursor : ℕ) (ds : List PendingBalanceDeposit) (ps : List PendingPartialWithdrawal)
    (cs : List PendingConsolidation) : Type 0 where
  pub cursor_in : cursor < n
  pub deposits_in : every (deposit_in n) ds ≡ true
  pub partials_in : every (partial_in n) ps ≡ true
  pub partials_fit : length ps ≤ S.pending_partial_withdrawals_limit
  pub consolidations_in : every (consolidation_in n) cs ≡ true
  pub consolidations_fit : length cs ≤ S.pending_consolidations_limit

pub record Accounts (carry exit_left consolidation_left : ℕ) : Type 0 where
  pub carry_small : carry ≤ BOUND
  pub exit_left_small : exit_left ≤ BOUND
  pub consolidation_left_small : consolidation_left ≤ BOUND

pub record Kept (S : Settings) (n : ℕ) (b : Books) : Type 0 where
  pub registry : Registry S n b.validators
  pub queues : Queues S n b.next_withdrawal_validator_index b.pending_balance_deposits
      b.pending_partial_withdrawals b.pending_consolidations
  pub accounts : Accounts b.deposit_balance_to_consume b.exit_balance_to_consume
      b.consolidation_balance_to_consume

-- for some count
pub record Stands (S : Settings) (b : Books) : Type 0 where
  pub n : ℕ
  pub kept : Kept S n b

stands : {S : Settings} {n : ℕ} {b : Books} → Kept S n b → Stands S b
stands {S} {n} k = record { n = n; kept = k }

pub kept_before : (S : Settings) (b : Books) → SoundBooks S b → Kept S (count b) b
kept_before S b k = record {
  registry = record { size = refl; effective = k.effective; flags = k.flags };
  queues = record {
    cursor_in = k.cursor_in;
    deposits_in = k.deposits_in;
    partials_in = k.partials_in;
    partials_fit = k.partials_fit;
    consolidations_in = k.consolidations_in;
    consolidations_fit = k.consolidations_fit;
  };
  accounts = record {
    carry_small = k.carry_small;
    exit_left_small = k.exit_left_small;
    consolidation_left_small = k.consolidation_left_small;
  };
}

and_not : (s t : Bool) → t ≡ false → (s && not t) ≡ false → s ≡ false
and_not true t p q = let r : true ≡ false = rw p at q in r
and_not false t p q = refl

module _ (S : Settings) (σ : SoundSettings S) where
  -- ---- the registry

  -- one validator changed, its effective balance and its flag not
  adjusted : (n i : ℕ) (g : Validator → Validator) (vs : List Validator)
      → ((v : Validator) → (g v).effective_balance ≡ v.effective_balance)
      → ((v : Validator) → (g v).slashed ≡ v.slashed)
      → Registry S n vs → Registry S n (adjust i g vs)
  adjusted n i g vs p q r = record {
    size = length_adjust i g vs ∙ r.size;
    effective = every_adjust (effective_within S) i g vs (λ v e. rw (p v) e) r.effective;
    flags = every_adjust is_flag i g vs (λ v e. rw (q v) e) r.flags;
  }

  adjusted_kept : (n i : ℕ) (g : Validator → Validator) (b : Books)
      → ((v : Validator) → (g v).effective_balance ≡ v.effective_balance)
      → ((v : Validator) → (g v).slashed ≡ v.slashed)
      → Kept S n b → Kept S n (with_validators (adjust i g b.validators) b)
  adjusted_kept n i g b p q k = record {
    registry = adjusted n i g b.validators p q k.registry;
    queues = k.queues;
    accounts = k.accounts;
  }

  -- ---- exits

  exit_left_kept : (b : Books) (amount : ℕ) → b.exit_balance_to_consume ≤ BOUND
      → (compute_exit_epoch_and_update_churn S b amount).left ≤ BOUND
  unfolding compute_exit_epoch_and_update_churn
  exit_left_kept b amount h =
      let churn = get_activation_exit_churn_limit S b in
      let epoch = compute_activation_exit_epoch S b in
      omega (
        arith,
        assigned_left b.exit_balance_to_consume b.earliest_exit_epoch epoch churn amount,
        activation_exit_churn_small S b σ,
      )

  exit_kept : (n i : ℕ) (b : Books) → Kept S n b → Kept S n (initiate_validator_exit S i b)
  unfolding initiate_validator_exit
  exit_kept n i b k = by_test (λ (e : Books). Kept S n e) _ (λ e. record {
    registry = adjusted n i (with_exit _ _) b.validators (λ v. refl) (λ v. refl) k.registry;
    queues = k.queues;
    accounts = record {
      carry_small = k.accounts.carry_small;
      exit_left_small = exit_left_kept b (at b.validators i).effective_balance k.accounts.exit_left_small;
      consolidation_left_small = k.accounts.consolidation_left_small;
    };
  }) (λ e. k)

  -- ---- deposits queued

  more_deposits : (n cursor : ℕ) (ds new : List PendingBalanceDeposit) (ps : List PendingPartialWithdrawal)
      (cs : List PendingConsolidation) → every (deposit_in n) new ≡ true
      → Queues S n cursor ds ps cs → Queues S n cursor (ds ++ new) ps cs
  more_deposits n cursor ds new ps cs p q = record {
    cursor_in = q.cursor_in;
    deposits_in = every_append (deposit_in n) ds new q.deposits_in p;
    partials_in = q.partials_in;
    partials_fit = q.partials_fit;
    consolidations_in = q.consolidations_in;
    consolidations_fit = q.consolidations_fit;
  }

  queue_kept : (n i amount : ℕ) (b : Books) → i < n → Kept S n b → Kept S n (queue_deposit i amount b)
  queue_kept n i amount b h k = record {
    registry = k.registry;
    queues = more_deposits n _ b.pending_balance_deposits _ _ _ (join (lt-ltb i n h) refl) k.queues;
    accounts = k.accounts;
  }

  entry_in : (n i : ℕ) (b : Books) → i < n → every (deposit_in n) (excess_entry S i b) ≡ true
  unfolding excess_entry
  entry_in n i b h =
      by_test (λ (l : List PendingBalanceDeposit). every (deposit_in n) l ≡ true) _
      (λ e. join (lt-ltb i n h) refl) (λ e. refl)

  switch_kept : (n i : ℕ) (b : Books) → i < n → Kept S n b → Kept S n (switch_to_compounding_validator S i b)
  switch_kept n i b h k =
      rw (switch_form S i b)
      (by_test (λ (e : Books). Kept S n e) _ (λ e. record {
        registry = adjusted n i (switched S) b.validators (λ v. refl) (λ v. refl) k.registry;
        queues =
            more_deposits n _ b.pending_balance_deposits (excess_entry S i b) _ _ (entry_in n i b h) k.queues;
        accounts = k.accounts;
      }) (λ e. k))

  -- ---- receipts

  -- a longer registry keeps every index
  grown : (n cursor : ℕ) (ds : List PendingBalanceDeposit) (ps : List PendingPartialWithdrawal)
      (cs : List PendingConsolidation) → Queues S n cursor ds ps cs → Queues S (n + 1) cursor ds ps cs
  grown n cursor ds ps cs q = record {
    cursor_in = omega (arith, q.cursor_in);
    deposits_in =
        every_weaken (deposit_in n) (deposit_in (n + 1)) ds (λ d e. omega (arith, lt-ltb, ltb-true)) q.deposits_in;
    partials_in =
        every_weaken (partial_in n) (partial_in (n + 1)) ps (λ d e. omega (arith, lt-ltb, ltb-true)) q.partials_in;
    partials_fit = q.partials_fit;
    consolidations_in =
        every_weaken (consolidation_in n) (consolidation_in (n + 1)) cs
        (λ c e.
        let s = both (ltb c.source_index n) (ltb c.target_index n) e in
        join
        (lt-ltb c.source_index (n + 1) (omega (arith, ltb-true)))
        (lt-ltb c.target_index (n + 1) (omega (arith, ltb-true))))
        q.consolidations_in;
    consolidations_fit = q.consolidations_fit;
  }

  added_kept : (public_key withdrawal_credentials : List ℕ) (amount : ℕ) (b : Books) → Kept S (count b) b
      → Kept S (count b + 1) (add_validator_to_registry public_key withdrawal_credentials amount b)
  unfolding add_validator_to_registry
  added_kept public_key withdrawal_credentials amount b k =
      let n = count b in
      let vs = b.validators in
      let new : List Validator = get_validator_from_deposit public_key withdrawal_credentials ∷ [] in
      let ds = b.pending_balance_deposits in
      record {
        registry = record {
          size = length-append vs new;
          effective =
              every_append (effective_within S) vs new k.registry.effective
              (join (le-leb 0 S.max_effective_balance_electra (omega arith)) refl);
          flags = every_append is_flag vs new k.registry.flags (join (le-leb 0 1 (omega arith)) refl);
        };
        queues =
            more_deposits (n + 1) _ ds _ _ _ (join (lt-ltb n (n + 1) (omega arith)) refl)
            (grown n _ ds b.pending_partial_withdrawals b.pending_consolidations k.queues);
        accounts = k.accounts;
      }

  deposit_call_kept : (public_key withdrawal_credentials : List ℕ) (amount : ℕ) (valid : Bool) (b : Books)
      → Kept S (count b) b → Stands S (apply_deposit S public_key withdrawal_credentials amount valid b)
  unfolding apply_deposit
  deposit_call_kept public_key withdrawal_credentials amount valid b k =
      let n = count b in
      let i = position public_key b.validators in
      let P : Books → Type 0 = λ e. Stands S e in
      by_test P _
      (λ e.
      let h : i < n = ltb-true i n e in
      let q : Kept S n (queue_deposit i amount b) = queue_kept n i amount b h k in
      by_test P _
      (λ e. record { n = n; kept = switch_kept n i (queue_deposit i amount b) h q })
      (λ e. record { n = n; kept = q }))
      (λ e. by_test P _
      (λ e. record { n = n + 1; kept = added_kept public_key withdrawal_credentials amount b k })
      (λ e. record { n = n; kept = k }))

  receipt_kept : (public_key withdrawal_credentials : List ℕ) (amount index : ℕ) (valid : Bool) (b : Books)
      → Kept S (count b) b → Stands S (process_deposit_receipt S public_key withdrawal_credentials amount index valid b)
  unfolding process_deposit_receipt
  receipt_kept public_key withdrawal_credentials amount index valid b k =
      let b₁ = start_receipts index b in
      let k₁ : Kept S (count b₁) b₁ =
      record { registry = k.registry; queues = k.queues; accounts = k.accounts } in
      deposit_call_kept public_key withdrawal_credentials amount valid b₁ k₁

  -- ---- requests

  partial_kept : (n i amount : ℕ) (b : Books) → i < n
      → suc (length b.pending_partial_withdrawals) ≤ S.pending_partial_withdrawals_limit
      → Kept S n b → Kept S n (request_partial_withdrawal S i amount b)
  unfolding request_partial_withdrawal
  partial_kept n i amount b h room k = by_test (λ (e : Books). Kept S n e) _ (λ e. record {
    registry = k.registry;
    queues = record {
      cursor_in = k.queues.cursor_in;
      deposits_in = k.queues.deposits_in;
      partials_in =
          every_append (partial_in n) b.pending_partial_withdrawals _ k.queues.partials_in
          (join (lt-ltb i n h) refl);
      partials_fit = simp length-append (omega arith);
      consolidations_in = k.queues.consolidations_in;
      consolidations_fit = k.queues.consolidations_fit;
    };
    accounts = record {
      carry_small = k.accounts.carry_small;
      exit_left_small = exit_left_kept b _ k.accounts.exit_left_small;
      consolidation_left_small = k.accounts.consolidation_left_small;
    };
  }) (λ e. k)

  request_kept : (n : ℕ) (source_address public_key : List ℕ) (amount : ℕ) (b : Books) → count b ≡ n → Kept S n b
      → Kept S n (process_execution_layer_withdrawal_request S source_address public_key amount b)
  unfolding process_execution_layer_withdrawal_request
  request_kept n source_address public_key amount b size k =
      let P : Books → Type 0 = λ e. Kept S n e in
      let i = position public_key b.validators in
      by_test P _ (λ e. k) λ full.
      by_test P _ (λ e. k) λ there.
      by_test P _ (λ e. k) λ e.
      by_test P _ (λ e. k) λ e.
      by_test P _ (λ e. k) λ e.
      by_test P _ (λ e. k) λ e.
      by_test P _ (λ e. by_test P _ (λ e. exit_kept n i b k) (λ e. k))
      (λ some.
      let h : i < count b = ltb-true i (count b) (not_not _ there) in
      partial_kept n i amount b (omega (arith, h, size)) (room (eqb amount 0) some full) k)
    where
      room : (t : Bool) → t ≡ false
          → (eqb (length b.pending_partial_withdrawals) S.pending_partial_withdrawals_limit && not t) ≡ false
          → suc (length b.pending_partial_withdrawals) ≤ S.pending_partial_withdrawals_limit
      room t p q =
          let full = eqb (length b.pending_partial_withdrawals) S.pending_partial_withdrawals_limit in
          let r : full ≡ false = and_not full t p q in
          let d : ¬ (length b.pending_partial_withdrawals ≡ S.pending_partial_withdrawals_limit) =
          eqb-false _ _ r in
          omega (arith, k.queues.partials_fit)

  -- ---- consolidations

  consolidation_call_kept : (n s t : ℕ) (b : Books) → SoundBooks S b → s < n → t < n
      → suc (length b.pending_consolidations) ≤ S.pending_consolidations_limit
      → Kept S n b → Kept S n (process_consolidation S s t b)
  unfolding process_consolidation compute_consolidation_epoch_and_update_churn
  consolidation_call_kept n s t b sound hs ht room k = record {
    registry = adjusted n s (with_exit _ _) b.validators (λ v. refl) (λ v. refl) k.registry;
    queues = record {
      cursor_in = k.queues.cursor_in;
      deposits_in = k.queues.deposits_in;
      partials_in = k.queues.partials_in;
      partials_fit = k.queues.partials_fit;
      consolidations_in =
          every_append (consolidation_in n) b.pending_consolidations _ k.queues.consolidations_in
          (join (join (lt-ltb s n hs) (lt-ltb t n ht)) refl);
      consolidations_fit = simp length-append (omega arith);
    };
    accounts = record {
      carry_small = k.accounts.carry_small;
      exit_left_small = k.accounts.exit_left_small;
      consolidation_left_small =
          omega (
            arith,
            k.accounts.consolidation_left_small,
            assigned_left b.consolidation_balance_to_consume b.earliest_consolidation_epoch
                (compute_activation_exit_epoch S b) (get_consolidation_churn_limit S b)
                (at b.validators s).effective_balance,
            consolidation_churn_small S b σ sound.registry_fits sound.effective,
          );
    };
  }

  -- what the call's own tests leave: room in the queue, and both validators there
  consolidation_tests : (b : Books) (s t epoch : ℕ) (valid : Bool) → consolidation_refusal S b s t epoch valid ≡ 0
      → (suc (length b.pending_consolidations) ≤ S.pending_consolidations_limit) × (s < count b) × (t < count b)
  unfolding consolidation_refusal
  consolidation_tests b s t epoch valid e =
      let e₁ = passed _ {n = 20} (omega arith) e in
      let e₂ = passed _ {n = 21} (omega arith) e₁.1 in
      let e₃ = passed _ {n = 22} (omega arith) e₂.1 in
      let e₄ = passed _ {n = 10} (omega arith) e₃.1 in
      let e₅ = passed _ {n = 10} (omega arith) e₄.1 in (
        leb-false S.pending_consolidations_limit (length b.pending_consolidations) e₁.0,
        ltb-true s (count b) (not_not _ e₄.0),
        ltb-true t (count b) (not_not _ e₅.0),
      )

  -- ---- withdrawals

  withdrawals_kept : (n : ℕ) (ws : List Withdrawal) (b : Books) → count b ≡ n → Kept S n b
      → Kept S n (process_withdrawals S ws b)
  unfolding process_withdrawals
  withdrawals_kept n ws b size k = record {
    registry = record {
      size = pay_length ws b.validators ∙ k.registry.size;
      effective = pay_every (effective_within S) (λ v m e. e) ws b.validators k.registry.effective;
      flags = pay_every is_flag (λ v m e. e) ws b.validators k.registry.flags;
    };
    queues = record {
      cursor_in =
          let h : 0 < count b = omega (arith, k.queues.cursor_in, size) in
          omega (arith, next_validator_in S b ws h, size);
      deposits_in = k.queues.deposits_in;
      partials_in =
          every_drop (partial_in n) (length (expected_partial_withdrawals S b)) b.pending_partial_withdrawals
          k.queues.partials_in;
      partials_fit = simp length-drop (omega (arith, k.queues.partials_fit));
      consolidations_in = k.queues.consolidations_in;
      consolidations_fit = k.queues.consolidations_fit;
    };
    accounts = k.accounts;
  }

  -- ---- the deposit step

  carry_kept : (b : Books) → held b ≤ BOUND → carry_over S b ≤ BOUND
  carry_kept b h =
      let available = b.deposit_balance_to_consume + get_activation_exit_churn_limit S b in
      let queue = b.pending_balance_deposits in
      let split = ap deposit_amounts (affordable_prefix available 0 queue) in
      by_test (λ (c : ℕ). c ≤ BOUND) (empty (waiting_still S b)) (λ e. omega arith)
      (λ e.
      omega (
        arith,
        split,
        total_append deposit_amount (credited_now S b) (waiting_still S b),
        affordable_rest available 0 queue e,
      ))

  deposit_kept : (n : ℕ) (b : Books) → held b ≤ BOUND → Kept S n b → Kept S n (process_pending_balance_deposits S b)
  deposit_kept n b h k = rw (deposit_step_form S b) (record {
    registry = record {
      size = credit_length (credited_now S b) b.validators ∙ k.registry.size;
      effective =
          credit_every (effective_within S) (λ v m e. e) (credited_now S b) b.validators k.registry.effective;
      flags = credit_every is_flag (λ v m e. e) (credited_now S b) b.validators k.registry.flags;
    };
    queues = record {
      cursor_in = k.queues.cursor_in;
      deposits_in =
          every_drop (deposit_in n) (length (credited_now S b)) b.pending_balance_deposits k.queues.deposits_in;
      partials_in = k.queues.partials_in;
      partials_fit = k.queues.partials_fit;
      consolidations_in = k.queues.consolidations_in;
      consolidations_fit = k.queues.consolidations_fit;
    };
    accounts = record {
      carry_small = carry_kept b h;
      exit_left_small = k.accounts.exit_left_small;
      consolidation_left_small = k.accounts.consolidation_left_small;
    };
  })

  -- ---- the consolidation step

  move_kept : (n s t : ℕ) (b : Books) → Kept S n b → Kept S n (move_active_balance S s t b)
  unfolding move_active_balance
  move_kept n s t b k =
      adjusted_kept n t (increased _) _ (λ v. refl) (λ v. refl)
      (adjusted_kept n s (decreased _) b (λ v. refl) (λ v. refl) k)

  consolidate_kept : (n : ℕ) (c : PendingConsolidation) (b : Books) → c.target_index < n
      → Kept S n b → Kept S n (consolidate S c b)
  unfolding consolidate
  consolidate_kept n c b h k =
      move_kept n c.source_index c.target_index (switch_to_compounding_validator S c.target_index b)
      (switch_kept n c.target_index b h k)

  rest_kept : (n : ℕ) (cs : List PendingConsolidation) (b : Books) → every (consolidation_in n) cs ≡ true
      → length cs ≤ S.pending_consolidations_limit → Kept S n b → Kept S n (with_pending_consolidations cs b)
  rest_kept n cs b p h k = record {
    registry = k.registry;
    queues = record {
      cursor_in = k.queues.cursor_in;
      deposits_in = k.queues.deposits_in;
      partials_in = k.queues.partials_in;
      partials_fit = k.queues.partials_fit;
      consolidations_in = p;
      consolidations_fit = h;
    };
    accounts = k.accounts;
  }

  consolidations_kept : (n : ℕ) (cs : List PendingConsolidation) (b : Books) → every (consolidation_in n) cs ≡ true
      → length cs ≤ S.pending_consolidations_limit → Kept S n b → Kept S n (process_consolidations S cs b)
  unfolding process_consolidations
  consolidations_kept n [] b p h k = rest_kept n [] b p h k
  consolidations_kept n (c ∷ cs) b p h k =
      let s = both (consolidation_in n c) (every (consolidation_in n) cs) p in
      let target : c.target_index < n =
      ltb-true c.target_index n (both (ltb c.source_index n) (ltb c.target_index n) s.0).1 in
      let r : length cs ≤ S.pending_consolidations_limit = omega arith in
      let P : Books → Type 0 = λ e. Kept S n e in
      by_test P _ (λ e. consolidations_kept n cs b s.1 r k)
      (λ e. by_test P _
      (λ e. rest_kept n (c ∷ cs) b p h k)
      (λ e. consolidations_kept n cs (consolidate S c b) s.1 r (consolidate_kept n c b target k)))

  consolidation_kept : (n : ℕ) (b : Books) → Kept S n b → Kept S n (process_pending_consolidations S b)
  unfolding process_pending_consolidations
  consolidation_kept n b k =
      let q = k.queues in
      consolidations_kept n b.pending_consolidations b q.consolidations_in q.consolidations_fit k

  -- ---- the effective balance step, and the turn

  updated_within : (v : Validator) → effective_within S v ≡ true → effective_within S (updated S v) ≡ true
  unfolding updated
  updated_within v p =
      let most = S.max_effective_balance_electra in
      let c : get_validator_max_effective_balance S v ≤ most =
      by_test (λ (n : ℕ). n ≤ most) _ (λ e. omega arith) (λ e. σ.min_max) in
      by_test (λ (n : ℕ). leb n most ≡ true) (needs_update S v) (λ e. omega (arith, le-leb)) (λ e. p)

  updated_flag : (v : Validator) → is_flag v ≡ true → is_flag (updated S v) ≡ true
  unfolding updated
  updated_flag v p = p

  effective_kept : (n : ℕ) (b : Books) → Kept S n b → Kept S n (process_effective_balance_updates S b)
  unfolding process_effective_balance_updates
  effective_kept n b k = record {
    registry = record {
      size = length-map b.validators (updated S) ∙ k.registry.size;
      effective = every_map (effective_within S) (updated S) b.validators updated_within k.registry.effective;
      flags = every_map is_flag (updated S) b.validators updated_flag k.registry.flags;
    };
    queues = k.queues;
    accounts = k.accounts;
  }

  turn_kept : (n : ℕ) (b : Books) → held b ≤ BOUND → Kept S n b → Kept S n (turn S b)
  unfolding turn
  turn_kept n b h k =
      let k₁ = effective_kept n _ (consolidation_kept n _ (deposit_kept n b h k)) in
      record { registry = k₁.registry; queues = k₁.queues; accounts = k₁.accounts }

  -- ---- every call

  pub operation_kept : (b : Books) (o : Operation) → SoundBooks S b → own_refusal S b o ≡ 0 → Stands S (result S b o)
  unfolding result own_refusal process_voluntary_exit
  operation_kept b (calls.reward i amount) s e =
      stands (adjusted_kept _ i (increased amount) b (λ v. refl) (λ v. refl) (kept_before S b s))
  operation_kept b (calls.penalty i amount) s e =
      stands (adjusted_kept _ i (decreased amount) b (λ v. refl) (λ v. refl) (kept_before S b s))
  operation_kept b (calls.deposit_receipt public_key withdrawal_credentials amount index valid) s e =
      receipt_kept public_key withdrawal_credentials amount index valid b (kept_before S b s)
  operation_kept b (calls.voluntary_exit i epoch valid) s e = stands (exit_kept _ i b (kept_before S b s))
  operation_kept b (calls.withdrawal_request source_address public_key amount) s e =
      stands (request_kept _ source_address public_key amount b refl (kept_before S b s))
  operation_kept b (calls.consolidation source_index target_index epoch valid) s e =
      let t = consolidation_tests b source_index target_index epoch valid e in
      stands (consolidation_call_kept _ source_index target_index b s t.1 t.2 t.0 (kept_before S b s))
  operation_kept b (calls.withdrawals ws) s e = stands (withdrawals_kept _ ws b refl (kept_before S b s))
  operation_kept b calls.turn s e = stands (turn_kept _ b s.held_small (kept_before S b s))
  operation_kept b calls.pending_balance_deposits s e = stands (deposit_kept _ b s.held_small (kept_before S b s))
  operation_kept b calls.pending_consolidations s e = stands (consolidation_kept _ b (kept_before S b s))
  operation_kept b calls.effective_balance_updates s e = stands (effective_kept _ b (kept_before S b s))
