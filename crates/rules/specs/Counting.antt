-- What each call counts, on the books that it is made on, and a list of calls ("Counting for demand 3").
use Rattle.std.specs.Prelude.{Bool, ◌&&◌, List, [], ◌∷◌, ◌++◌, ℕ, ◌+◌, ◌-◌, min, ltb, eqb}
use Rattle.lists.specs.Base.{when◌then◌else◌, adjust}
use Rattle.rules.specs.Types.{Settings, Validator, Withdrawal, Books}
use Rattle.rules.specs.Types.{PendingBalanceDeposit, PendingConsolidation}
use Rattle.rules.specs.Helpers.{at, count, position, decreased}
use Rattle.rules.specs.Helpers.{has_eth1_withdrawal_credential, get_activation_exit_churn_limit}
use Rattle.rules.specs.EpochProcessing.{consolidate, process_pending_balance_deposits}
use Rattle.rules.specs.BlockProcessing.{switches}
use Rattle.rules.specs.Calls as calls
use Rattle.rules.specs.Calls.{Operation, Call, done, after}

pub record Counted : Type 0 where
  -- Gwei taken in by receipts and rewards
  pub taken_in : ℕ
  -- Gwei taken by withdrawals and penalties
  pub taken_out : ℕ
  -- deposits credited, in order
  pub credited : List PendingBalanceDeposit
  -- deposits queued, in order
  pub queued : List PendingBalanceDeposit
  -- the deposit steps' allowances
  pub allowance : ℕ

abbrev pub nothing : Counted
nothing = record { taken_in = 0; taken_out = 0; credited = []; queued = []; allowance = 0 }

abbrev pub takes_in : ℕ → List PendingBalanceDeposit → Counted
takes_in n ds = record { taken_in = n; taken_out = 0; credited = []; queued = ds; allowance = 0 }

abbrev pub takes_out : ℕ → Counted
takes_out n = record { taken_in = 0; taken_out = n; credited = []; queued = []; allowance = 0 }

abbrev pub queues : List PendingBalanceDeposit → Counted
queues ds = record { taken_in = 0; taken_out = 0; credited = []; queued = ds; allowance = 0 }

abbrev pub credits : List PendingBalanceDeposit → ℕ → Counted
credits ds n = record { taken_in = 0; taken_out = 0; credited = ds; queued = []; allowance = n }

infixl 65 ◌⊕◌
-- one count, and then another
abbrev pub ◌⊕◌ : Counted → Counted → Counted
m ⊕ n = record {
  taken_in = m.taken_in + n.taken_in;
  taken_out = m.taken_out + n.taken_out;
  credited = m.credited ++ n.credited;
  queued = m.queued ++ n.queued;
  allowance = m.allowance + n.allowance;
}

-- the entry that a switch of validator i queues: its balance above the minimum, and none where that is 0
unfoldable pub excess_entry : Settings → ℕ → Books → List PendingBalanceDeposit
excess_entry S i b =
    let v = at b.validators i in
    let excess = v.balance - S.min_activation_balance in
    when has_eth1_withdrawal_credential v && ltb 0 excess then record { index = i; amount = excess } ∷ [] else []

-- the entries before the first that would bring their sum, with `spent` before them, over the limit, else all
abbrev pub affordable : (limit spent : ℕ) → List PendingBalanceDeposit → List PendingBalanceDeposit
affordable limit spent [] = []
affordable limit spent (d ∷ ds) =
    let further = d ∷ affordable limit (spent + d.amount) ds in
    when ltb limit (spent + d.amount) then [] else further

-- withdrawals in list order: each takes the smaller of its amount and the balance then
abbrev pub paid_out : List Withdrawal → List Validator → ℕ
paid_out [] vs = 0
paid_out (w ∷ ws) vs =
    min w.amount (at vs w.validator_index).balance
    + paid_out ws (adjust w.validator_index (decreased w.amount) vs)

-- the excess of each switch of a consolidation step, in order
unfoldable pub excess_entries : Settings → List PendingConsolidation → Books → List PendingBalanceDeposit
excess_entries S [] b = []
excess_entries S (c ∷ cs) b =
    let source = at b.validators c.source_index in
    let dropped = excess_entries S cs b in
    let consolidated = excess_entry S c.target_index b ++ excess_entries S cs (consolidate S c b) in
    when eqb source.slashed 1 then dropped
    else when ltb b.epoch source.withdrawable_epoch then []
    else consolidated

-- an unknown key and flag 0: nothing; any other receipt takes in its amount, queues its entry and any switch's excess
unfoldable pub receipt_counts : Settings → Books → (public_key withdrawal_credentials : List ℕ) → ℕ → Bool → Counted
receipt_counts S b public_key withdrawal_credentials amount valid =
    let i = position public_key b.validators in
    let entry : PendingBalanceDeposit = record { index = i; amount = amount } in
    let added : PendingBalanceDeposit = record { index = count b; amount = amount } in
    let switch = switches withdrawal_credentials valid (at b.validators i) in
    when ltb i (count b)
    then takes_in amount (entry ∷ (when switch then excess_entry S i b else []))
    else (when valid then takes_in amount (added ∷ []) else nothing)

unfoldable pub deposit_step_counts : Settings → Books → Counted
deposit_step_counts S b =
    let allowance = get_activation_exit_churn_limit S b in
    credits (affordable (b.deposit_balance_to_consume + allowance) 0 b.pending_balance_deposits) allowance

unfoldable pub consolidation_step_counts : Settings → Books → Counted
consolidation_step_counts S b = queues (excess_entries S b.pending_consolidations b)

-- what a call counts that is not refused
unfoldable pub counts : Settings → Books → Operation → Counted
counts S b (calls.reward i amount) = takes_in amount []
counts S b (calls.penalty i amount) = takes_out (min amount (at b.validators i).balance)
counts S b (calls.deposit_receipt public_key withdrawal_credentials amount index valid) =
    receipt_counts S b public_key withdrawal_credentials amount valid
counts S b (calls.voluntary_exit i epoch valid) = nothing
counts S b (calls.withdrawal_request source_address public_key amount) = nothing
counts S b (calls.consolidation source_index target_index epoch valid) = nothing
counts S b (calls.withdrawals ws) = takes_out (paid_out ws b.validators)
counts S b calls.turn = deposit_step_counts S b ⊕ consolidation_step_counts S (process_pending_balance_deposits S b)
counts S b calls.pending_balance_deposits = deposit_step_counts S b
counts S b calls.pending_consolidations = consolidation_step_counts S b
counts S b calls.effective_balance_updates = nothing

-- a refused call counts nothing
unfoldable pub call_counts : Settings → Books → Call → Counted
call_counts S b c = when done S b c then counts S b c.operation else nothing

-- a list of calls, each on the books that the last one left
abbrev pub counted : Settings → Books → List Call → Counted
counted S b [] = nothing
counted S b (c ∷ cs) = call_counts S b c ⊕ counted S (after S b c) cs
