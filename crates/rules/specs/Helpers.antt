-- The rules of capella/helpers.rs and electra/helpers.rs, on whole numbers: nothing overflows, and every function is
-- total. They stand in the order of the Rust but where one needs another. S is the settings, b the books, v a
-- validator, i the index of one.
use Rattle.std.specs.Prelude.{Bool, ◌&&◌, ◌||◌, List, [], ◌∷◌, ◌++◌, ℕ, suc, ◌+◌, ◌-◌, ◌*◌, ◌/◌, ◌%◌, min, max, length}
use Rattle.std.specs.Prelude.{get_or, drop, set, leb, ltb, eqb}
use Rattle.lists.specs.Base.{when◌then◌else◌, adjust, total, same_bytes}
use Rattle.rules.specs.Types.{FAR, Settings, Validator, PendingBalanceDeposit, PendingPartialWithdrawal, Books}
use Rattle.rules.specs.Update.{with_withdrawal_credentials, with_exit, with_balance}
use Rattle.rules.specs.Update.{with_exit_churn, with_validators, with_pending_balance_deposits}

-- ---- reading the registry

-- what `at` reads where there is no such validator; no rule reads it in accepted books
abbrev pub no_validator : Validator
no_validator = record {
  public_key = [];
  withdrawal_credentials = [];
  slashed = 0;
  effective_balance = 0;
  activation_eligibility_epoch = FAR;
  activation_epoch = FAR;
  exit_epoch = FAR;
  withdrawable_epoch = FAR;
  balance = 0;
}

abbrev pub at : List Validator → ℕ → Validator
at vs i = get_or vs i no_validator

abbrev pub count : Books → ℕ
count b = length b.validators

-- the first validator with this key; the count where there is none
abbrev pub position : List ℕ → List Validator → ℕ
position public_key [] = 0
position public_key (v ∷ vs) =
    let further = suc (position public_key vs) in
    when same_bytes public_key v.public_key then 0 else further

-- ---- credentials

abbrev pub prefix : List ℕ → ℕ
prefix withdrawal_credentials = get_or withdrawal_credentials 0 0

-- the last twenty bytes of the credentials
abbrev pub withdrawal_address : Validator → List ℕ
withdrawal_address v = drop 12 v.withdrawal_credentials

-- capella/helpers.rs has_eth1_withdrawal_credential
abbrev pub has_eth1_withdrawal_credential : Validator → Bool
has_eth1_withdrawal_credential v = eqb (prefix v.withdrawal_credentials) 1

-- is_compounding_withdrawal_credential
abbrev pub is_compounding_withdrawal_credential : List ℕ → Bool
is_compounding_withdrawal_credential withdrawal_credentials = eqb (prefix withdrawal_credentials) 2

-- has_compounding_withdrawal_credential
abbrev pub has_compounding_withdrawal_credential : Validator → Bool
has_compounding_withdrawal_credential v = is_compounding_withdrawal_credential v.withdrawal_credentials

-- has_execution_withdrawal_credential
abbrev pub has_execution_withdrawal_credential : Validator → Bool
has_execution_withdrawal_credential v = has_compounding_withdrawal_credential v || has_eth1_withdrawal_credential v

-- get_validator_max_effective_balance
abbrev pub get_validator_max_effective_balance : Settings → Validator → ℕ
get_validator_max_effective_balance S v =
    when has_compounding_withdrawal_credential v then S.max_effective_balance_electra else S.min_activation_balance

-- is_fully_withdrawable_validator
unfoldable pub is_fully_withdrawable_validator : ℕ → Validator → Bool
is_fully_withdrawable_validator epoch v =
    has_execution_withdrawal_credential v && leb v.withdrawable_epoch epoch && ltb 0 v.balance

-- is_partially_withdrawable_validator
unfoldable pub is_partially_withdrawable_validator : Settings → Validator → Bool
is_partially_withdrawable_validator S v =
    let max_effective_balance = get_validator_max_effective_balance S v in
    has_execution_withdrawal_credential v
    && eqb v.effective_balance max_effective_balance
    && ltb max_effective_balance v.balance

-- ---- balances

-- called only: increase adds, decrease stops at 0
abbrev pub increased : ℕ → Validator → Validator
increased amount v = with_balance (v.balance + amount) v

abbrev pub decreased : ℕ → Validator → Validator
decreased amount v = with_balance (v.balance - amount) v

abbrev pub increase_balance : ℕ → ℕ → Books → Books
increase_balance i amount b = with_validators (adjust i (increased amount) b.validators) b

abbrev pub decrease_balance : ℕ → ℕ → Books → Books
decrease_balance i amount b = with_validators (adjust i (decreased amount) b.validators) b

-- one entry behind the waiting deposits
abbrev pub queue_deposit : ℕ → ℕ → Books → Books
queue_deposit i amount b =
    let entry : PendingBalanceDeposit = record { index = i; amount = amount } in
    with_pending_balance_deposits (b.pending_balance_deposits ++ (entry ∷ [])) b

-- ---- churn

-- called only: active is activation ≤ epoch < exit
abbrev pub is_active_validator : ℕ → Validator → Bool
is_active_validator epoch v = leb v.activation_epoch epoch && ltb epoch v.exit_epoch

abbrev pub active_effective_balance : ℕ → Validator → ℕ
active_effective_balance epoch v = when is_active_validator epoch v then v.effective_balance else 0

-- called only: the sum of active effective balances, at least one increment
unfoldable pub get_total_active_balance : Settings → Books → ℕ
get_total_active_balance S b =
    max S.effective_balance_increment (total (active_effective_balance b.epoch) b.validators)

-- get_balance_churn_limit
unfoldable pub get_balance_churn_limit : Settings → Books → ℕ
get_balance_churn_limit S b =
    let churn_limit = get_total_active_balance S b / S.churn_limit_quotient in
    let churn = max S.min_per_epoch_churn_limit_electra churn_limit in
    churn - churn % S.effective_balance_increment

-- get_activation_exit_churn_limit
unfoldable pub get_activation_exit_churn_limit : Settings → Books → ℕ
get_activation_exit_churn_limit S b =
    min S.max_per_epoch_activation_exit_churn_limit (get_balance_churn_limit S b)

-- get_consolidation_churn_limit
unfoldable pub get_consolidation_churn_limit : Settings → Books → ℕ
get_consolidation_churn_limit S b = get_balance_churn_limit S b - get_activation_exit_churn_limit S b

-- get_active_balance
abbrev pub get_active_balance : Settings → Validator → ℕ
get_active_balance S v = min v.balance (get_validator_max_effective_balance S v)

-- what a waiting partial withdrawal owes validator i
abbrev pub owed_to : ℕ → PendingPartialWithdrawal → ℕ
owed_to i p = when eqb p.index i then p.amount else 0

-- get_pending_balance_to_withdraw
abbrev pub get_pending_balance_to_withdraw : Books → ℕ → ℕ
get_pending_balance_to_withdraw b i = total (owed_to i) b.pending_partial_withdrawals

-- ---- epoch assignment

-- a churn account after an assignment: what is left in its earliest epoch, which is the epoch assigned
pub record Assignment : Type 0 where
  pub left : ℕ
  pub epoch : ℕ

-- what compute_exit_epoch_and_update_churn and compute_consolidation_epoch_and_update_churn share
unfoldable pub assign_epoch : (left earliest_epoch activation_exit_epoch churn amount : ℕ) → Assignment
assign_epoch left earliest_epoch activation_exit_epoch churn amount =
    let start = max earliest_epoch activation_exit_epoch in
    let to_consume = when ltb earliest_epoch start then churn else left in
    let additional = when ltb to_consume amount then (amount - to_consume - 1) / churn + 1 else 0 in
    record { left = to_consume + additional * churn - amount; epoch = start + additional }

-- called only: compute_activation_exit_epoch
abbrev pub compute_activation_exit_epoch : Settings → Books → ℕ
compute_activation_exit_epoch S b = b.epoch + 1 + S.max_seed_lookahead

-- compute_exit_epoch_and_update_churn: the exits' churn account afterwards
unfoldable pub compute_exit_epoch_and_update_churn : Settings → Books → ℕ → Assignment
compute_exit_epoch_and_update_churn S b exit_balance =
    assign_epoch
    b.exit_balance_to_consume
    b.earliest_exit_epoch
    (compute_activation_exit_epoch S b)
    (get_activation_exit_churn_limit S b)
    exit_balance

-- compute_consolidation_epoch_and_update_churn, by the consolidation churn (place 4 of docs/DIFFERENCES.md)
unfoldable pub compute_consolidation_epoch_and_update_churn : Settings → Books → ℕ → Assignment
compute_consolidation_epoch_and_update_churn S b consolidation_balance =
    assign_epoch
    b.consolidation_balance_to_consume
    b.earliest_consolidation_epoch
    (compute_activation_exit_epoch S b)
    (get_consolidation_churn_limit S b)
    consolidation_balance

-- initiate_validator_exit
unfoldable pub initiate_validator_exit : Settings → ℕ → Books → Books
initiate_validator_exit S i b =
    let v = at b.validators i in
    let a = compute_exit_epoch_and_update_churn S b v.effective_balance in
    let exiting = with_exit a.epoch (a.epoch + S.min_validator_withdrawability_delay) in
    when eqb v.exit_epoch FAR
    then with_exit_churn a.left a.epoch (with_validators (adjust i exiting b.validators) b)
    else b

-- ---- the switch to compounding

-- queue_excess_active_balance
unfoldable pub queue_excess_active_balance : Settings → ℕ → Books → Books
queue_excess_active_balance S i b =
    let balance = (at b.validators i).balance in
    let excess_balance = balance - S.min_activation_balance in
    let reset = with_validators (adjust i (with_balance S.min_activation_balance) b.validators) b in
    when ltb S.min_activation_balance balance then queue_deposit i excess_balance reset else b

-- byte 0 of the credentials becomes 02, and no other byte changes
abbrev pub with_compounding_prefix : Validator → Validator
with_compounding_prefix v = with_withdrawal_credentials (set v.withdrawal_credentials 0 2) v

-- switch_to_compounding_validator
unfoldable pub switch_to_compounding_validator : Settings → ℕ → Books → Books
switch_to_compounding_validator S i b =
    let compounding = with_validators (adjust i with_compounding_prefix b.validators) b in
    when has_eth1_withdrawal_credential (at b.validators i) then queue_excess_active_balance S i compounding else b
