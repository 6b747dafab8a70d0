-- The rules of electra/epoch_processing.rs, and the turn made of them.
use Rattle.std.specs.Prelude.{Bool, ◌||◌, List, [], ◌∷◌, map, ℕ, ◌+◌, ◌-◌, ◌*◌, ◌/◌, ◌%◌, min, ltb, eqb}
use Rattle.lists.specs.Base.{when◌then◌else◌, adjust, empty}
use Rattle.rules.specs.Types.{Settings, Validator, PendingBalanceDeposit, PendingConsolidation, Books}
use Rattle.rules.specs.Update.{with_effective_balance, with_epoch, with_deposit_balance_to_consume}
use Rattle.rules.specs.Update.{with_validators, with_pending_balance_deposits, with_pending_consolidations}
use Rattle.rules.specs.Helpers.{at, increased, increase_balance, decrease_balance}
use Rattle.rules.specs.Helpers.{get_validator_max_effective_balance, get_activation_exit_churn_limit}
use Rattle.rules.specs.Helpers.{get_active_balance, switch_to_compounding_validator}

-- ---- process_pending_balance_deposits

-- what the deposit loop leaves: the validators, the deposits not reached, and the amount processed
pub record Deposited : Type 0 where
  pub validators : List Validator
  pub waiting : List PendingBalanceDeposit
  pub processed_amount : ℕ

-- the deposit loop: it stops at the first entry that would bring the processed amount over what is available
unfoldable pub process_deposits : (available processed_amount : ℕ)
    → List PendingBalanceDeposit → List Validator → Deposited
process_deposits available processed_amount [] vs =
    record { validators = vs; waiting = []; processed_amount = processed_amount }
process_deposits available processed_amount (d ∷ ds) vs =
    let sum = processed_amount + d.amount in
    let credited = process_deposits available sum ds (adjust d.index (increased d.amount) vs) in
    let stopped : Deposited = record { validators = vs; waiting = d ∷ ds; processed_amount = processed_amount } in
    when ltb available sum then stopped else credited

unfoldable pub process_pending_balance_deposits : Settings → Books → Books
process_pending_balance_deposits S b =
    let available = b.deposit_balance_to_consume + get_activation_exit_churn_limit S b in
    let done = process_deposits available 0 b.pending_balance_deposits b.validators in
    let carry = when empty done.waiting then 0 else available - done.processed_amount in
    with_deposit_balance_to_consume carry
    (with_pending_balance_deposits done.waiting (with_validators done.validators b))

-- ---- process_pending_consolidations

-- the source's active balance moves to the target
unfoldable pub move_active_balance : Settings → (source_index target_index : ℕ) → Books → Books
move_active_balance S source_index target_index b =
    let active_balance = get_active_balance S (at b.validators source_index) in
    increase_balance target_index active_balance (decrease_balance source_index active_balance b)

-- one entry: the target switches to compounding, then the balance moves
unfoldable pub consolidate : Settings → PendingConsolidation → Books → Books
consolidate S c b =
    move_active_balance S c.source_index c.target_index (switch_to_compounding_validator S c.target_index b)

-- the consolidation loop: a slashed source's entry is dropped, and a source not yet withdrawable stops the loop
unfoldable pub process_consolidations : Settings → List PendingConsolidation → Books → Books
process_consolidations S [] b = with_pending_consolidations [] b
process_consolidations S (c ∷ cs) b =
    let source = at b.validators c.source_index in
    let dropped = process_consolidations S cs b in
    let consolidated = process_consolidations S cs (consolidate S c b) in
    when eqb source.slashed 1 then dropped
    else when ltb b.epoch source.withdrawable_epoch then with_pending_consolidations (c ∷ cs) b
    else consolidated

unfoldable pub process_pending_consolidations : Settings → Books → Books
process_pending_consolidations S b = process_consolidations S b.pending_consolidations b

-- ---- process_effective_balance_updates

-- the balance stands outside the band around the effective balance
unfoldable pub needs_update : Settings → Validator → Bool
needs_update S v =
    let hysteresis_increment = S.effective_balance_increment / S.hysteresis_quotient in
    let downward_threshold = hysteresis_increment * S.hysteresis_downward_multiplier in
    let upward_threshold = hysteresis_increment * S.hysteresis_upward_multiplier in
    ltb (v.balance + downward_threshold) v.effective_balance
    || ltb (v.effective_balance + upward_threshold) v.balance

unfoldable pub updated : Settings → Validator → Validator
updated S v =
    let rounded = v.balance - v.balance % S.effective_balance_increment in
    let effective_balance = min rounded (get_validator_max_effective_balance S v) in
    with_effective_balance (when needs_update S v then effective_balance else v.effective_balance) v

unfoldable pub process_effective_balance_updates : Settings → Books → Books
process_effective_balance_updates S b = with_validators (map (updated S) b.validators) b

-- ---- the turn, added by design: the three steps, then the next epoch

unfoldable pub turn : Settings → Books → Books
turn S b =
    let credited = process_pending_balance_deposits S b in
    let consolidated = process_pending_consolidations S credited in
    let done = process_effective_balance_updates S consolidated in
    with_epoch (done.epoch + 1) done
