-- The calls, their answers by number ("Answers by cause"), the books that a call leaves, and lists of calls.
use Rattle.std.specs.Prelude.{Bool, not, List, [], ◌∷◌, ℕ, leb, ltb, eqb}
use Rattle.lists.specs.Base.{when◌then◌else◌, all}
use Rattle.rules.specs.Types.{BOUND, Settings, Withdrawal, Books}
use Rattle.rules.specs.Helpers.{count, assign_epoch, increase_balance, decrease_balance}
use Rattle.rules.specs.EpochProcessing as steps
use Rattle.rules.specs.BlockProcessing as block
use Rattle.rules.specs.Acceptance.{sound_settings, sound_books, within_limits, sums_within, all_epochs_within}

-- ---- what a call is handed besides settings and books

-- `valid` is the flag of a good signature
pub data Operation : Type 0 where
  reward penalty : (i amount : ℕ) → Operation
  deposit_receipt : (public_key withdrawal_credentials : List ℕ) (amount index : ℕ) (valid : Bool) → Operation
  voluntary_exit : (i epoch : ℕ) (valid : Bool) → Operation
  withdrawal_request : (source_address public_key : List ℕ) (amount : ℕ) → Operation
  consolidation : (source_index target_index epoch : ℕ) (valid : Bool) → Operation
  withdrawals : List Withdrawal → Operation
  turn pending_balance_deposits pending_consolidations effective_balance_updates : Operation

-- how many records each lent buffer has room for
pub record Room : Type 0 where
  pub validators : ℕ
  pub deposits : ℕ
  pub partials : ℕ
  pub consolidations : ℕ

pub record Call : Type 0 where
  pub room : Room
  pub operation : Operation

-- no buffer is shorter than its limit
unfoldable pub enough_room : Settings → Room → Bool
enough_room S r = all
    (leb S.validator_registry_limit r.validators
    ∷ leb S.pending_balance_deposits_limit r.deposits
    ∷ leb S.pending_partial_withdrawals_limit r.partials
    ∷ leb S.pending_consolidations_limit r.consolidations
    ∷ [])

-- ---- one call

-- what it is handed: 1, 3, 2 in this order
unfoldable pub handed_refusal : Settings → Books → Room → ℕ
handed_refusal S b r =
    when not (sound_settings S) then 1
    else when not (enough_room S r) then 3
    else when not (sound_books S b) then 2
    else 0

-- the number of the first of the call's own tests that fails; 0 where none does
unfoldable pub own_refusal : Settings → Books → Operation → ℕ
own_refusal S b (reward i amount) = when not (ltb i (count b)) then 10 else 0
own_refusal S b (penalty i amount) = when not (ltb i (count b)) then 10 else 0
own_refusal S b (deposit_receipt public_key withdrawal_credentials amount index valid) = 0
own_refusal S b (voluntary_exit i epoch valid) = block.voluntary_exit_refusal S b i epoch valid
own_refusal S b (withdrawal_request source_address public_key amount) = 0
own_refusal S b (consolidation source_index target_index epoch valid) =
    block.consolidation_refusal S b source_index target_index epoch valid
own_refusal S b (withdrawals ws) = block.withdrawals_refusal S b ws
own_refusal S b turn = 0
own_refusal S b pending_balance_deposits = 0
own_refusal S b pending_consolidations = 0
own_refusal S b effective_balance_updates = 0

-- the books that the rules give, in whole numbers
unfoldable pub result : Settings → Books → Operation → Books
result S b (reward i amount) = increase_balance i amount b
result S b (penalty i amount) = decrease_balance i amount b
result S b (deposit_receipt public_key withdrawal_credentials amount index valid) =
    block.process_deposit_receipt S public_key withdrawal_credentials amount index valid b
result S b (voluntary_exit i epoch valid) = block.process_voluntary_exit S i b
result S b (withdrawal_request source_address public_key amount) =
    block.process_execution_layer_withdrawal_request S source_address public_key amount b
result S b (consolidation source_index target_index epoch valid) =
    block.process_consolidation S source_index target_index b
result S b (withdrawals ws) = block.process_withdrawals S ws b
result S b turn = steps.turn S b
result S b pending_balance_deposits = steps.process_pending_balance_deposits S b
result S b pending_consolidations = steps.process_pending_consolidations S b
result S b effective_balance_updates = steps.process_effective_balance_updates S b

-- the result is too large: 40, 41, 42 in this order
unfoldable pub size_refusal : Settings → Books → ℕ
size_refusal S e =
    when not (within_limits S e) then 40
    else when not (sums_within e) then 41
    else when not (all_epochs_within e) then 42
    else 0

unfoldable pub answer : Settings → Books → Call → ℕ
answer S b c =
    let handed = handed_refusal S b c.room in
    let own = own_refusal S b c.operation in
    when not (eqb handed 0) then handed
    else when not (eqb own 0) then own
    else size_refusal S (result S b c.operation)

unfoldable pub done : Settings → Books → Call → Bool
done S b c = eqb (answer S b c) 0

-- the books that a call leaves; a refused one leaves all as it was
unfoldable pub after : Settings → Books → Call → Books
after S b c = when done S b c then result S b c.operation else b

-- ---- a list of calls, each on the books that the last one left

abbrev pub run : Settings → Books → List Call → Books
run S b [] = b
run S b (c ∷ cs) = run S (after S b c) cs

abbrev pub answers : Settings → Books → List Call → List ℕ
answers S b [] = []
answers S b (c ∷ cs) = answer S b c ∷ answers S (after S b c) cs

-- ---- the bare epoch assignment

-- its answer, from any five numbers: FAR is over the bound here too
unfoldable pub assignment_answer : (left earliest_epoch activation_exit_epoch churn amount : ℕ) → ℕ
assignment_answer left earliest_epoch activation_exit_epoch churn amount =
    when eqb churn 0 then 50
    else when ltb BOUND (assign_epoch left earliest_epoch activation_exit_epoch churn amount).epoch then 42
    else 0
