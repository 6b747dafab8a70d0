-- The rules of electra/block_processing.rs. A rule that can refuse has its tests beside it, in the Rust's order: the
-- number of the first that fails, or 0.
use Rattle.std.specs.Prelude.{Bool, true, false, not, ◌&&◌, List, [], ◌∷◌, ◌++◌, ℕ, zero, suc, ◌+◌, ◌-◌, ◌%◌, min}
use Rattle.std.specs.Prelude.{length, drop, leb, ltb, eqb}
use Rattle.lists.specs.Base.{when◌then◌else◌, adjust, empty, last, same_bytes}
use Rattle.rules.specs.Types.{FAR, Settings, Validator, Books}
use Rattle.rules.specs.Types.{PendingPartialWithdrawal, PendingConsolidation, Withdrawal}
use Rattle.rules.specs.Update.{with_exit, with_next_withdrawal, with_receipts_start, with_exit_churn}
use Rattle.rules.specs.Update.{with_consolidation_churn, with_validators}
use Rattle.rules.specs.Update.{with_pending_partial_withdrawals, with_pending_consolidations}
use Rattle.rules.specs.Helpers.{at, count, position, withdrawal_address, decreased, queue_deposit}
use Rattle.rules.specs.Helpers.{has_eth1_withdrawal_credential, is_compounding_withdrawal_credential}
use Rattle.rules.specs.Helpers.{has_compounding_withdrawal_credential, has_execution_withdrawal_credential}
use Rattle.rules.specs.Helpers.{get_validator_max_effective_balance, is_active_validator}
use Rattle.rules.specs.Helpers.{is_fully_withdrawable_validator, is_partially_withdrawable_validator}
use Rattle.rules.specs.Helpers.{get_consolidation_churn_limit, get_pending_balance_to_withdraw}
use Rattle.rules.specs.Helpers.{compute_exit_epoch_and_update_churn, compute_consolidation_epoch_and_update_churn}
use Rattle.rules.specs.Helpers.{initiate_validator_exit, switch_to_compounding_validator}

-- ---- get_expected_withdrawals

-- a waiting partial withdrawal of this validator is paid; an effective balance of just the minimum suffices (place 1)
unfoldable pub is_partial_payable : Settings → Validator → Bool
is_partial_payable S v =
    let has_sufficient_effective_balance = leb S.min_activation_balance v.effective_balance in
    let has_excess_balance = ltb S.min_activation_balance v.balance in
    eqb v.exit_epoch FAR && has_sufficient_effective_balance && has_excess_balance

-- the walk over waiting partials, the next to be listed with this index, at most `room` of them. Each reads the
-- balance in the books, and names its entry's validator (place 2)
abbrev pub partial_withdrawals : Settings → Books → (index room : ℕ) → List PendingPartialWithdrawal → List Withdrawal
partial_withdrawals S b index room [] = []
partial_withdrawals S b index zero (p ∷ ps) = []
partial_withdrawals S b index (suc room) (p ∷ ps) =
    let v = at b.validators p.index in
    let withdrawal : Withdrawal = record {
      index = index;
      validator_index = p.index;
      address = withdrawal_address v;
      amount = min (v.balance - S.min_activation_balance) p.amount;
    } in
    let listed = withdrawal ∷ partial_withdrawals S b (suc index) room ps in
    let passed = partial_withdrawals S b index (suc room) ps in
    when ltb b.epoch p.withdrawable_epoch then []
    else when is_partial_payable S v then listed
    else passed

-- what the sweep takes of a validator: all, what stands above its maximum, or nothing
unfoldable pub sweep_amount : Settings → ℕ → Validator → ℕ
sweep_amount S epoch v =
    when is_fully_withdrawable_validator epoch v then v.balance
    else when is_partially_withdrawable_validator S v then v.balance - get_validator_max_effective_balance S v
    else 0

-- the sweep over `bound` validators from i on, around the registry, at most `room` withdrawals
abbrev pub sweep_withdrawals : Settings → Books → (bound i index room : ℕ) → List Withdrawal
sweep_withdrawals S b zero i index room = []
sweep_withdrawals S b (suc bound) i index zero = []
sweep_withdrawals S b (suc bound) i index (suc room) =
    let v = at b.validators i in
    let amount = sweep_amount S b.epoch v in
    let onward = (i + 1) % count b in
    let withdrawal : Withdrawal = record {
      index = index;
      validator_index = i;
      address = withdrawal_address v;
      amount = amount;
    } in
    let listed = withdrawal ∷ sweep_withdrawals S b bound onward (suc index) room in
    let passed = sweep_withdrawals S b bound onward index (suc room) in
    when ltb 0 amount then listed else passed

-- the first part of the list; its length is the partial_withdrawals_count
unfoldable pub expected_partial_withdrawals : Settings → Books → List Withdrawal
expected_partial_withdrawals S b =
    partial_withdrawals S b
    b.next_withdrawal_index
    S.max_pending_partials_per_withdrawals_sweep
    b.pending_partial_withdrawals

unfoldable pub get_expected_withdrawals : Settings → Books → List Withdrawal
get_expected_withdrawals S b =
    let partials = expected_partial_withdrawals S b in
    let bound = min (count b) S.max_validators_per_withdrawals_sweep in
    let index = b.next_withdrawal_index + length partials in
    let room = S.max_withdrawals_per_payload - length partials in
    partials ++ sweep_withdrawals S b bound b.next_withdrawal_validator_index index room

-- ---- process_withdrawals

abbrev pub same_withdrawal : Withdrawal → Withdrawal → Bool
same_withdrawal x y =
    eqb x.index y.index
    && eqb x.validator_index y.validator_index
    && same_bytes x.address y.address
    && eqb x.amount y.amount

abbrev pub same_withdrawals : List Withdrawal → List Withdrawal → Bool
same_withdrawals [] [] = true
same_withdrawals [] (y ∷ ys) = false
same_withdrawals (x ∷ xs) [] = false
same_withdrawals (x ∷ xs) (y ∷ ys) = same_withdrawal x y && same_withdrawals xs ys

unfoldable pub withdrawals_refusal : Settings → Books → List Withdrawal → ℕ
withdrawals_refusal S b ws = when not (same_withdrawals ws (get_expected_withdrawals S b)) then 30 else 0

-- each withdrawal decreases its validator's balance, in list order
abbrev pub pay_withdrawals : List Withdrawal → List Validator → List Validator
pay_withdrawals [] vs = vs
pay_withdrawals (w ∷ ws) vs = pay_withdrawals ws (adjust w.validator_index (decreased w.amount) vs)

-- what `last` reads of an empty list; no rule reads it
abbrev pub no_withdrawal : Withdrawal
no_withdrawal = record { index = 0; validator_index = 0; address = []; amount = 0 }

-- next_withdrawal_index
unfoldable pub next_index : Books → List Withdrawal → ℕ
next_index b ws = when empty ws then b.next_withdrawal_index else (last no_withdrawal ws).index + 1

-- next_withdrawal_validator_index: after a full list behind the last withdrawal's validator (place 3)
unfoldable pub next_validator_index : Settings → Books → List Withdrawal → ℕ
next_validator_index S b ws =
    when eqb (length ws) S.max_withdrawals_per_payload
    then ((last no_withdrawal ws).validator_index + 1) % count b
    else (b.next_withdrawal_validator_index + S.max_validators_per_withdrawals_sweep) % count b

-- as many partials leave the queue from the front as were listed
unfoldable pub process_withdrawals : Settings → List Withdrawal → Books → Books
process_withdrawals S ws b =
    let paid_partials = length (expected_partial_withdrawals S b) in
    with_next_withdrawal (next_index b ws) (next_validator_index S b ws)
    (with_pending_partial_withdrawals (drop paid_partials b.pending_partial_withdrawals)
    (with_validators (pay_withdrawals ws b.validators) b))

-- ---- apply_deposit; `valid` is the signature's flag

-- get_validator_from_deposit
abbrev pub get_validator_from_deposit : (public_key withdrawal_credentials : List ℕ) → Validator
get_validator_from_deposit public_key withdrawal_credentials = record {
  public_key = public_key;
  withdrawal_credentials = withdrawal_credentials;
  slashed = 0;
  effective_balance = 0;
  activation_eligibility_epoch = FAR;
  activation_epoch = FAR;
  exit_epoch = FAR;
  withdrawable_epoch = FAR;
  balance = 0;
}

-- add_validator_to_registry
unfoldable pub add_validator_to_registry : (public_key withdrawal_credentials : List ℕ) → ℕ → Books → Books
add_validator_to_registry public_key withdrawal_credentials amount b =
    let v = get_validator_from_deposit public_key withdrawal_credentials in
    queue_deposit (count b) amount (with_validators (b.validators ++ (v ∷ [])) b)

-- a deposit to validator v switches it to compounding
abbrev pub switches : (withdrawal_credentials : List ℕ) → Bool → Validator → Bool
switches withdrawal_credentials valid v =
    is_compounding_withdrawal_credential withdrawal_credentials && has_eth1_withdrawal_credential v && valid

-- a bad signature is no refusal: an unknown key is not added, a known key is not switched (place 7)
unfoldable pub apply_deposit : Settings → (public_key withdrawal_credentials : List ℕ) → ℕ → Bool → Books → Books
apply_deposit S public_key withdrawal_credentials amount valid b =
    let i = position public_key b.validators in
    let queued = queue_deposit i amount b in
    let added = add_validator_to_registry public_key withdrawal_credentials amount b in
    let switch = switches withdrawal_credentials valid (at b.validators i) in
    when ltb i (count b)
    then (when switch then switch_to_compounding_validator S i queued else queued)
    else (when valid then added else b)

-- ---- process_voluntary_exit

-- the time active counts from the activation epoch (place 6)
unfoldable pub voluntary_exit_refusal : Settings → Books → (i epoch : ℕ) → Bool → ℕ
voluntary_exit_refusal S b i epoch valid =
    let v = at b.validators i in
    when not (ltb i (count b)) then 10
    else when not (is_active_validator b.epoch v) then 11
    else when not (eqb v.exit_epoch FAR) then 12
    else when ltb b.epoch epoch then 13
    else when ltb b.epoch (v.activation_epoch + S.shard_committee_period) then 14
    else when not (eqb (get_pending_balance_to_withdraw b i) 0) then 15
    else when not valid then 16
    else 0

unfoldable pub process_voluntary_exit : Settings → ℕ → Books → Books
process_voluntary_exit S i b = initiate_validator_exit S i b

-- ---- process_execution_layer_withdrawal_request

-- the part behind the tests that a full exit request does not reach
unfoldable pub request_partial_withdrawal : Settings → (i amount : ℕ) → Books → Books
request_partial_withdrawal S i amount b =
    let v = at b.validators i in
    let reserved = S.min_activation_balance + get_pending_balance_to_withdraw b i in
    let to_withdraw = min (v.balance - reserved) amount in
    let a = compute_exit_epoch_and_update_churn S b to_withdraw in
    let entry : PendingPartialWithdrawal = record {
      index = i;
      amount = to_withdraw;
      withdrawable_epoch = a.epoch + S.min_validator_withdrawability_delay;
    } in
    let queued = with_pending_partial_withdrawals (b.pending_partial_withdrawals ++ (entry ∷ [])) b in
    let has_sufficient_effective_balance = leb S.min_activation_balance v.effective_balance in
    let has_excess_balance = ltb reserved v.balance in
    when has_compounding_withdrawal_credential v && has_sufficient_effective_balance && has_excess_balance
    then with_exit_churn a.left a.epoch queued
    else b

-- each failed test leaves the books as they are; a full exit request has amount 0
unfoldable pub process_execution_layer_withdrawal_request : Settings
    → (source_address public_key : List ℕ) → ℕ → Books → Books
process_execution_layer_withdrawal_request S source_address public_key amount b =
    let full_exit = eqb amount 0 in
    let i = position public_key b.validators in
    let v = at b.validators i in
    let exited = when eqb (get_pending_balance_to_withdraw b i) 0 then initiate_validator_exit S i b else b in
    when eqb (length b.pending_partial_withdrawals) S.pending_partial_withdrawals_limit && not full_exit then b
    else when not (ltb i (count b)) then b
    else when not (has_execution_withdrawal_credential v && same_bytes (withdrawal_address v) source_address) then b
    else when not (is_active_validator b.epoch v) then b
    else when not (eqb v.exit_epoch FAR) then b
    else when ltb b.epoch (v.activation_epoch + S.shard_committee_period) then b
    else when full_exit then exited
    else request_partial_withdrawal S i amount b

-- ---- process_deposit_receipt

-- the first receipt's index is kept
abbrev pub start_receipts : ℕ → Books → Books
start_receipts index b =
    let start = b.deposit_receipts_start_index in
    with_receipts_start (when eqb start FAR then index else start) b

unfoldable pub process_deposit_receipt : Settings
    → (public_key withdrawal_credentials : List ℕ) (amount index : ℕ) → Bool → Books → Books
process_deposit_receipt S public_key withdrawal_credentials amount index valid b =
    apply_deposit S public_key withdrawal_credentials amount valid (start_receipts index b)

-- ---- process_consolidation

unfoldable pub consolidation_refusal : Settings → Books → (source_index target_index epoch : ℕ) → Bool → ℕ
consolidation_refusal S b source_index target_index epoch valid =
    let source = at b.validators source_index in
    let target = at b.validators target_index in
    when leb S.pending_consolidations_limit (length b.pending_consolidations) then 20
    else when leb (get_consolidation_churn_limit S b) S.min_activation_balance then 21
    else when eqb source_index target_index then 22
    else when not (ltb source_index (count b)) then 10
    else when not (ltb target_index (count b)) then 10
    else when not (is_active_validator b.epoch source) then 11
    else when not (is_active_validator b.epoch target) then 11
    else when not (eqb source.exit_epoch FAR) then 12
    else when not (eqb target.exit_epoch FAR) then 12
    else when ltb b.epoch epoch then 13
    else when not (has_execution_withdrawal_credential source) then 23
    else when not (has_execution_withdrawal_credential target) then 23
    else when not (same_bytes (withdrawal_address source) (withdrawal_address target)) then 24
    else when not valid then 16
    else 0

-- the source is withdrawable at its new exit epoch + delay (place 5)
unfoldable pub process_consolidation : Settings → (source_index target_index : ℕ) → Books → Books
process_consolidation S source_index target_index b =
    let source = at b.validators source_index in
    let a = compute_consolidation_epoch_and_update_churn S b source.effective_balance in
    let exiting = with_exit a.epoch (a.epoch + S.min_validator_withdrawability_delay) in
    let entry : PendingConsolidation = record { source_index = source_index; target_index = target_index } in
    with_consolidation_churn a.left a.epoch
    (with_pending_consolidations (b.pending_consolidations ++ (entry ∷ []))
    (with_validators (adjust source_index exiting b.validators) b))
