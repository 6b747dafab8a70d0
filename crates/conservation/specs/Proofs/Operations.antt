-- The flow of each call that is not refused.
use Rattle.std.specs.Prelude.{◌≡◌, Bool, not, List, [], ◌∷◌, ℕ, zero, suc, ◌+◌, ◌<◌, min, ltb}
use Rattle.std.proofs.Math.Path.{refl, sym}
use Rattle.std.proofs.Math.Bool.{true, false}
use Rattle.std.proofs.Common.{append-nil, ltb-true}
use native.Mathlib.Omega.{arith}
use Rattle.lists.specs.Base.{when◌then◌else◌, adjust, total}
use Rattle.lists.specs.Laws.{by_test, not_not, passed, total_adjust, total_adjust_same, total_append}
use Rattle.rules.specs.Types.{Settings, Validator, PendingBalanceDeposit, Withdrawal, Books}
use Rattle.rules.specs.Update.{with_exit}
use Rattle.rules.specs.Helpers.{at, no_validator, count, position, increased, decreased}
use Rattle.rules.specs.Helpers.{increase_balance, decrease_balance, queue_deposit}
use Rattle.rules.specs.Helpers.{initiate_validator_exit, switch_to_compounding_validator}
use Rattle.rules.specs.BlockProcessing.{pay_withdrawals, process_withdrawals, get_validator_from_deposit}
use Rattle.rules.specs.BlockProcessing.{add_validator_to_registry, switches, apply_deposit, process_voluntary_exit}
use Rattle.rules.specs.BlockProcessing.{request_partial_withdrawal, process_execution_layer_withdrawal_request}
use Rattle.rules.specs.BlockProcessing.{start_receipts, process_deposit_receipt, process_consolidation}
use Rattle.rules.specs.Acceptance.{sound_books}
use Rattle.rules.specs.Calls as calls
use Rattle.rules.specs.Calls.{Operation, own_refusal, result}
use Rattle.rules.specs.Counting.{nothing, takes_in, takes_out, paid_out, excess_entry, receipt_counts, counts}
use Rattle.rule_laws.specs.Accepted.{books_sound}
use Rattle.conservation.specs.Proofs.Flow.{Flow, quiet, still, then_flow, choose}
use Rattle.conservation.specs.Proofs.Steps.{balance, deposit_amount, switch_flow}
use Rattle.conservation.specs.Proofs.Steps.{deposit_flow, consolidation_flow, effective_flow, turn_flow}

-- ---- what decreases take

decreased_total : (i amount : ℕ) (vs : List Validator)
    → total balance (adjust i (decreased amount) vs) + min amount (at vs i).balance ≡ total balance vs
decreased_total i amount [] = omega arith
decreased_total zero amount (v ∷ vs) = omega arith
decreased_total (suc i) amount (v ∷ vs) = omega (arith, decreased_total i amount vs)

paid_total : (ws : List Withdrawal) (vs : List Validator)
    → total balance (pay_withdrawals ws vs) + paid_out ws vs ≡ total balance vs
paid_total [] vs = omega arith
paid_total (w ∷ ws) vs =
    omega (
      arith,
      paid_total ws (adjust w.validator_index (decreased w.amount) vs),
      decreased_total w.validator_index w.amount vs,
    )

abbrev one : ℕ → ℕ → List PendingBalanceDeposit
one i amount = record { index = i; amount = amount } ∷ []

module _ (S : Settings) (b : Books) where
  pub reward_flow : (i amount : ℕ) → i < count b → Flow (takes_in amount []) b (increase_balance i amount b)
  reward_flow i amount h = record {
    sums = omega (arith, total_adjust balance i (increased amount) b.validators no_validator h);
    order = sym (append-nil b.pending_balance_deposits);
    spent = omega arith;
  }

  pub penalty_flow : (i amount : ℕ)
      → Flow (takes_out (min amount (at b.validators i).balance)) b (decrease_balance i amount b)
  penalty_flow i amount = record {
    sums = omega (arith, decreased_total i amount b.validators);
    order = sym (append-nil b.pending_balance_deposits);
    spent = omega arith;
  }

  pub withdrawals_flow : (ws : List Withdrawal)
      → Flow (takes_out (paid_out ws b.validators)) b (process_withdrawals S ws b)
  unfolding process_withdrawals
  withdrawals_flow ws = record {
    sums = omega (arith, paid_total ws b.validators);
    order = sym (append-nil b.pending_balance_deposits);
    spent = omega arith;
  }

  pub exit_flow : (i : ℕ) → Flow nothing b (initiate_validator_exit S i b)
  unfolding initiate_validator_exit
  exit_flow i =
      by_test (λ (e : Books). Flow nothing b e) _
      (λ e. quiet b _ (total_adjust_same balance i (with_exit _ _) b.validators (λ x. refl)) refl refl)
      (λ e. still b)

  partial_flow : (i amount : ℕ) → Flow nothing b (request_partial_withdrawal S i amount b)
  unfolding request_partial_withdrawal
  partial_flow i amount =
      by_test (λ (e : Books). Flow nothing b e) _ (λ e. quiet b _ refl refl refl) (λ e. still b)

  pub request_flow : (source_address public_key : List ℕ) (amount : ℕ)
      → Flow nothing b (process_execution_layer_withdrawal_request S source_address public_key amount b)
  unfolding process_execution_layer_withdrawal_request
  request_flow source_address public_key amount =
      let P : Books → Type 0 = λ e. Flow nothing b e in
      let i = position public_key b.validators in
      by_test P _ (λ e. still b) λ e.
      by_test P _ (λ e. still b) λ e.
      by_test P _ (λ e. still b) λ e.
      by_test P _ (λ e. still b) λ e.
      by_test P _ (λ e. still b) λ e.
      by_test P _ (λ e. still b) λ e.
      by_test P _ (λ e. by_test P _ (λ e. exit_flow i) (λ e. still b)) (λ e. partial_flow i amount)

  pub consolidation_call_flow : (s t : ℕ) → Flow nothing b (process_consolidation S s t b)
  unfolding process_consolidation
  consolidation_call_flow s t =
      quiet b _ (total_adjust_same balance s (with_exit _ _) b.validators (λ x. refl)) refl refl

  -- ---- receipts

  pub queue_flow : (i amount : ℕ) → Flow (takes_in amount (one i amount)) b (queue_deposit i amount b)
  queue_flow i amount = record {
    sums = omega (arith, total_append deposit_amount b.pending_balance_deposits (one i amount));
    order = refl;
    spent = omega arith;
  }

  pub added_flow : (public_key withdrawal_credentials : List ℕ) (amount : ℕ)
      → Flow (takes_in amount (one (count b) amount)) b
      (add_validator_to_registry public_key withdrawal_credentials amount b)
  unfolding add_validator_to_registry
  added_flow public_key withdrawal_credentials amount =
      let v = get_validator_from_deposit public_key withdrawal_credentials in
      record {
        sums =
            omega (
              arith,
              total_append deposit_amount b.pending_balance_deposits (one (count b) amount),
              total_append balance b.validators (v ∷ []),
            );
        order = refl;
        spent = omega arith;
      }

  -- a known key, with or without a switch
  pub known_flow : (i amount : ℕ) (t : Bool) → i < count b
      → Flow (takes_in amount (record { index = i; amount = amount } ∷ (when t then excess_entry S i b else []))) b
      (when t then switch_to_compounding_validator S i (queue_deposit i amount b) else queue_deposit i amount b)
  unfolding when◌then◌else◌ excess_entry
  known_flow i amount true h =
      let f = then_flow (queue_flow i amount) (switch_flow S i (queue_deposit i amount b) h) in
      record { sums = omega (arith, f.sums); order = f.order; spent = f.spent }
  known_flow i amount false h = queue_flow i amount

  deposit_call_flow : (public_key withdrawal_credentials : List ℕ) (amount : ℕ) (valid : Bool)
      → Flow (receipt_counts S b public_key withdrawal_credentials amount valid) b
      (apply_deposit S public_key withdrawal_credentials amount valid b)
  unfolding receipt_counts apply_deposit
  deposit_call_flow public_key withdrawal_credentials amount valid =
      let i = position public_key b.validators in
      choose (ltb i (count b))
      (λ e. known_flow i amount (switches withdrawal_credentials valid (at b.validators i)) (ltb-true i (count b) e))
      (λ e. choose valid (λ e. added_flow public_key withdrawal_credentials amount) (λ e. still b))

-- the receipt start is no part of what is counted
pub receipt_flow : (S : Settings) (b : Books) (public_key withdrawal_credentials : List ℕ) (amount index : ℕ)
    (valid : Bool) → Flow (receipt_counts S b public_key withdrawal_credentials amount valid) b
    (process_deposit_receipt S public_key withdrawal_credentials amount index valid b)
unfolding process_deposit_receipt receipt_counts excess_entry
receipt_flow S b public_key withdrawal_credentials amount index valid =
    let f = deposit_call_flow S (start_receipts index b) public_key withdrawal_credentials amount valid in
    record { sums = f.sums; order = f.order; spent = f.spent }

-- ---- every call

in_registry : (b : Books) (i : ℕ) → ◌≡◌ {A = ℕ} (when not (ltb i (count b)) then 10 else 0) 0 → i < count b
in_registry b i e = ltb-true i (count b) (not_not _ (passed _ {n = 10} {r = 0} (omega arith) e).0)

pub operation_flow : (S : Settings) (b : Books) (o : Operation) → sound_books S b ≡ true → own_refusal S b o ≡ 0
    → Flow (counts S b o) b (result S b o)
unfolding own_refusal counts result process_voluntary_exit
operation_flow S b (calls.reward i amount) p e = reward_flow S b i amount (in_registry b i e)
operation_flow S b (calls.penalty i amount) p e = penalty_flow S b i amount
operation_flow S b (calls.deposit_receipt public_key withdrawal_credentials amount index valid) p e =
    receipt_flow S b public_key withdrawal_credentials amount index valid
operation_flow S b (calls.voluntary_exit i epoch valid) p e = exit_flow S b i
operation_flow S b (calls.withdrawal_request source_address public_key amount) p e =
    request_flow S b source_address public_key amount
operation_flow S b (calls.consolidation source_index target_index epoch valid) p e =
    consolidation_call_flow S b source_index target_index
operation_flow S b (calls.withdrawals ws) p e = withdrawals_flow S b ws
operation_flow S b calls.turn p e =
    let k = books_sound S b p in
    turn_flow S b k.deposits_in k.consolidations_in
operation_flow S b calls.pending_balance_deposits p e = deposit_flow S b (books_sound S b p).deposits_in
operation_flow S b calls.pending_consolidations p e = consolidation_flow S b (books_sound S b p).consolidations_in
operation_flow S b calls.effective_balance_updates p e = effective_flow S b
