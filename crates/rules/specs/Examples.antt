-- Settings, books and calls that the examples below are made of.
use Rattle.std.specs.Prelude.{List, [], ◌∷◌, ◌++◌, ℕ, ◌^◌, replicate, set}
use Rattle.lists.specs.Base.{when◌then◌else◌, all}
use Rattle.rules.specs.Types.{FAR, Settings, Validator, Withdrawal, Books}
use Rattle.rules.specs.Types.{PendingBalanceDeposit, PendingPartialWithdrawal, PendingConsolidation}
use Rattle.rules.specs.Profiles.{settings_from, mainnet_row}
use Rattle.rules.specs.Helpers as helpers
use Rattle.rules.specs.EpochProcessing as steps
use Rattle.rules.specs.BlockProcessing as block
use Rattle.rules.specs.Acceptance as acceptance
use Rattle.rules.specs.Calls as calls
use Rattle.rules.specs.Calls.{Operation, Call}
use Rattle.rules.specs.Counting as counting

abbrev pub G : ℕ
G = 10 ^ 9

-- ---- settings

-- the mainnet row and limits of 256, but for some numbers, each given behind its place
abbrev numbers_but : List (ℕ × ℕ) → List ℕ
numbers_but [] = mainnet_row ++ replicate 4 256
numbers_but (c ∷ cs) = set (numbers_but cs) c.0 c.1

abbrev pub mainnet_but : List (ℕ × ℕ) → Settings
mainnet_but changes = settings_from (numbers_but changes)

abbrev pub mainnet : Settings
mainnet = mainnet_but []

-- with another minimum churn
abbrev pub with_min_churn : ℕ → Settings
with_min_churn n = mainnet_but ((3, n) ∷ [])

-- with other limits
abbrev pub with_limits : (registry deposits partials consolidations : ℕ) → Settings
with_limits registry deposits partials consolidations =
    mainnet_but ((15, registry) ∷ (16, deposits) ∷ (17, partials) ∷ (18, consolidations) ∷ [])

-- ---- books

abbrev pub key : ℕ → List ℕ
key n = n ∷ replicate 47 0

abbrev pub address : ℕ → List ℕ
address n = n ∷ replicate 19 0

abbrev pub credentials : (prefix n : ℕ) → List ℕ
credentials prefix n = prefix ∷ replicate 11 0 ++ address n

-- active since epoch 0
abbrev pub validator : (n prefix effective_balance balance : ℕ) → Validator
validator n prefix effective_balance balance = record {
  public_key = key n;
  withdrawal_credentials = credentials prefix 0;
  slashed = 0;
  effective_balance = effective_balance;
  activation_eligibility_epoch = 0;
  activation_epoch = 0;
  exit_epoch = FAR;
  withdrawable_epoch = FAR;
  balance = balance;
}

abbrev pub with_slashed : ℕ → Validator → Validator
with_slashed flag v = record {
  public_key = v.public_key;
  withdrawal_credentials = v.withdrawal_credentials;
  slashed = flag;
  effective_balance = v.effective_balance;
  activation_eligibility_epoch = v.activation_eligibility_epoch;
  activation_epoch = v.activation_epoch;
  exit_epoch = v.exit_epoch;
  withdrawable_epoch = v.withdrawable_epoch;
  balance = v.balance;
}

-- eligibility and activation
abbrev pub since : (eligibility activation : ℕ) → Validator → Validator
since eligibility activation v = record {
  public_key = v.public_key;
  withdrawal_credentials = v.withdrawal_credentials;
  slashed = v.slashed;
  effective_balance = v.effective_balance;
  activation_eligibility_epoch = eligibility;
  activation_epoch = activation;
  exit_epoch = v.exit_epoch;
  withdrawable_epoch = v.withdrawable_epoch;
  balance = v.balance;
}

abbrev pub deposit : (index amount : ℕ) → PendingBalanceDeposit
deposit index amount = record { index = index; amount = amount }

abbrev pub partial : (index amount epoch : ℕ) → PendingPartialWithdrawal
partial index amount epoch = record { index = index; amount = amount; withdrawable_epoch = epoch }

abbrev pub pending : (source target : ℕ) → PendingConsolidation
pending source target = record { source_index = source; target_index = target }

abbrev pub withdrawal : (index validator_index amount : ℕ) → Withdrawal
withdrawal index validator_index amount =
    record { index = index; validator_index = validator_index; address = address 0; amount = amount }

-- at epoch 1000, all other scalars 0
abbrev pub books : List Validator → List PendingBalanceDeposit → List PendingPartialWithdrawal
    → List PendingConsolidation → Books
books vs ds ps cs = record {
  epoch = 1000;
  next_withdrawal_index = 0;
  next_withdrawal_validator_index = 0;
  deposit_receipts_start_index = 0;
  deposit_balance_to_consume = 0;
  exit_balance_to_consume = 0;
  earliest_exit_epoch = 0;
  consolidation_balance_to_consume = 0;
  earliest_consolidation_epoch = 0;
  validators = vs;
  pending_balance_deposits = ds;
  pending_partial_withdrawals = ps;
  pending_consolidations = cs;
}

-- ---- calls

-- with room for 65,536 records in every buffer
abbrev pub call : Operation → Call
call o = record {
  room = record { validators = 65536; deposits = 65536; partials = 65536; consolidations = 65536 };
  operation = o;
}

-- ---- every rule opened, for examples that the checker computes

unfoldable pub opened : ℕ
unfolding
    when◌then◌else◌ all helpers.is_fully_withdrawable_validator helpers.is_partially_withdrawable_validator
    helpers.get_total_active_balance helpers.get_balance_churn_limit helpers.get_activation_exit_churn_limit
    helpers.get_consolidation_churn_limit helpers.assign_epoch helpers.compute_exit_epoch_and_update_churn
    helpers.compute_consolidation_epoch_and_update_churn helpers.initiate_validator_exit
    helpers.queue_excess_active_balance helpers.switch_to_compounding_validator steps.process_deposits
    steps.process_pending_balance_deposits steps.move_active_balance steps.consolidate steps.process_consolidations
    steps.process_pending_consolidations steps.needs_update steps.updated steps.process_effective_balance_updates
    steps.turn block.is_partial_payable block.sweep_amount block.expected_partial_withdrawals
    block.get_expected_withdrawals block.withdrawals_refusal block.next_index block.next_validator_index
    block.process_withdrawals block.add_validator_to_registry block.apply_deposit block.voluntary_exit_refusal
    block.process_voluntary_exit block.request_partial_withdrawal block.process_execution_layer_withdrawal_request
    block.process_deposit_receipt block.consolidation_refusal block.process_consolidation acceptance.sound_settings
    acceptance.sound_books acceptance.within_limits acceptance.sums_within acceptance.all_epochs_within
    calls.enough_room calls.handed_refusal calls.own_refusal calls.result calls.size_refusal calls.answer calls.done
    calls.after
    calls.assignment_answer counting.excess_entry counting.excess_entries counting.receipt_counts
    counting.deposit_step_counts counting.consolidation_step_counts counting.counts counting.call_counts
opened = 0
