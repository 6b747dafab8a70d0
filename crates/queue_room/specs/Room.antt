-- How long the deposit queue is after the consolidation step, and after a turn.
use Rattle.std.specs.Prelude.{◌≡◌, Bool, true, false, List, [], ◌∷◌, ◌++◌, ℕ, ◌+◌, ◌-◌, ◌≤◌, drop, leb, ltb, eqb}
use Rattle.std.proofs.Math.Path.{refl, ap}
use Rattle.std.proofs.Common.{sym, ◌∙◌, arith, length-append, length-drop, le-leb}
use Rattle.std.proofs.Math.ListN.{length}
use Rattle.lists.specs.Base.{when◌then◌else◌}
use Rattle.tables.specs.Rows.{length_rows}
use Rattle.rules.specs.Types.{Settings, PendingBalanceDeposit, PendingConsolidation, Books}
use Rattle.rules.specs.Update.{with_pending_consolidations}
use Rattle.rules.specs.Helpers.{at, has_eth1_withdrawal_credential, switch_to_compounding_validator}
use Rattle.rules.specs.Helpers.{get_activation_exit_churn_limit}
use Rattle.rules.specs.EpochProcessing.{move_active_balance, consolidate, process_consolidations}
use Rattle.rules.specs.EpochProcessing.{process_pending_balance_deposits, process_pending_consolidations}
use Rattle.rules.specs.EpochProcessing.{process_effective_balance_updates, turn}
use Rattle.rules.specs.Counting.{excess_entry, excess_entries}
use Rattle.rule_laws.specs.Switch.{switched_books, switch_form}
use Rattle.rule_laws.specs.Deposits.{credited_now, deposit_step_form}
use Rattle.primitives.specs.declared.Scalars.{Scalars}
use Rattle.records.specs.Layout.{deposit_at}
use Rattle.records.specs.Books.{Tables, books_of, deposits_of, consolidations_of}
use Rattle.records.specs.Reading.{deposits_count, consolidations_count}
use Rattle.queue_room.specs.Balances.{switchable_balance, excess_entry_length}
use Rattle.queue_room.specs.Represented.{deposited}

-- the length of the deposit queue
abbrev pub queued : Books → ℕ
queued b = length b.pending_balance_deposits

-- what the deposit step may credit
abbrev pub available_amount : Settings → Books → ℕ
available_amount S b = b.deposit_balance_to_consume + get_activation_exit_churn_limit S b

-- ---- the consolidation step

switch_queue : (S : Settings) (i : ℕ) (b : Books)
    → queued (switch_to_compounding_validator S i b) ≡ queued b + length (excess_entry S i b)
unfolding excess_entry when◌then◌else◌
switch_queue S i b =
    ap queued (switch_form S i b) ∙ go (has_eth1_withdrawal_credential (at b.validators i)) refl
  where
    go : (t : Bool) → has_eth1_withdrawal_credential (at b.validators i) ≡ t
        → queued (when t then switched_books S i b else b) ≡ queued b + length (excess_entry S i b)
    go true e = length-append b.pending_balance_deposits (excess_entry S i b)
    go false e = rw e (omega arith)

consolidate_queue : (S : Settings) (c : PendingConsolidation) (b : Books)
    → queued (consolidate S c b) ≡ queued b + length (excess_entry S c.target_index b)
unfolding consolidate move_active_balance
consolidate_queue S c b = switch_queue S c.target_index b

consolidations_queue : (S : Settings) (cs : List PendingConsolidation) (b : Books)
    → queued (process_consolidations S cs b) ≡ queued b + length (excess_entries S cs b)
unfolding process_consolidations excess_entries when◌then◌else◌
consolidations_queue S [] b = omega arith
consolidations_queue S (c ∷ cs) b =
    let source = at b.validators c.source_index in
    go (eqb source.slashed 1) (ltb b.epoch source.withdrawable_epoch)
    (consolidations_queue S cs b) (consolidations_queue S cs (consolidate S c b))
  where
    go : (t u : Bool) → queued (process_consolidations S cs b) ≡ queued b + length (excess_entries S cs b)
        → queued (process_consolidations S cs (consolidate S c b))
        ≡ queued (consolidate S c b) + length (excess_entries S cs (consolidate S c b))
        → queued
        (when t then process_consolidations S cs b
        else when u then with_pending_consolidations (c ∷ cs) b
        else process_consolidations S cs (consolidate S c b))
        ≡ queued b
        + length {A = PendingBalanceDeposit}
        (when t then excess_entries S cs b
        else when u then []
        else excess_entry S c.target_index b ++ excess_entries S cs (consolidate S c b))
    go true u p q = p
    go false true p q = omega arith
    go false false p q =
        omega (
          arith,
          q,
          consolidate_queue S c b,
          length-append (excess_entry S c.target_index b) (excess_entries S cs (consolidate S c b)),
        )

-- a consolidation queues at most one entry
pub at_most_one : {n : ℕ} (t : Bool) → n ≡ (when t then 1 else 0) → n ≤ 1
unfolding when◌then◌else◌
at_most_one true e = omega arith
at_most_one false e = omega arith

entries_at_most : (S : Settings) (cs : List PendingConsolidation) (b : Books)
    → length (excess_entries S cs b) ≤ length cs
unfolding excess_entries when◌then◌else◌
entries_at_most S [] b = omega arith
entries_at_most S (c ∷ cs) b =
    let source = at b.validators c.source_index in
    go (eqb source.slashed 1) (ltb b.epoch source.withdrawable_epoch)
    (entries_at_most S cs b) (entries_at_most S cs (consolidate S c b))
  where
    one : length (excess_entry S c.target_index b) ≤ 1
    one =
        at_most_one (ltb S.min_activation_balance (switchable_balance (at b.validators c.target_index)))
        (excess_entry_length S c.target_index b)

    go : (t u : Bool) → length (excess_entries S cs b) ≤ length cs
        → length (excess_entries S cs (consolidate S c b)) ≤ length cs
        → length {A = PendingBalanceDeposit}
        (when t then excess_entries S cs b
        else when u then []
        else excess_entry S c.target_index b ++ excess_entries S cs (consolidate S c b))
        ≤ length (c ∷ cs)
    go true u p q = omega arith
    go false true p q = omega arith
    go false false p q =
        omega (
          arith,
          one,
          length-append (excess_entry S c.target_index b) (excess_entries S cs (consolidate S c b)),
        )

pub queue_after : (S : Settings) (b : Books)
    → queued (process_pending_consolidations S b) ≡ queued b + length (excess_entries S b.pending_consolidations b)
unfolding process_pending_consolidations
queue_after S b = consolidations_queue S b.pending_consolidations b

pub queue_after_at_most : (S : Settings) (b : Books)
    → queued (process_pending_consolidations S b) ≤ queued b + length b.pending_consolidations
queue_after_at_most S b = omega (arith, queue_after S b, entries_at_most S b.pending_consolidations b)

-- ---- the turn

module _ (S : Settings) (b : Books) where
  abbrev credited : Books
  credited = process_pending_balance_deposits S b

  turn_queue : queued (turn S b) ≡ queued (process_pending_consolidations S credited)
  unfolding turn process_effective_balance_updates
  turn_queue = refl

  waiting : credited.pending_consolidations ≡ b.pending_consolidations
  unfolding process_pending_balance_deposits
  waiting = refl

  pub queue_after_turn : queued (turn S b)
      ≡ queued credited + length (excess_entries S b.pending_consolidations credited)
  queue_after_turn =
      turn_queue
      ∙ queue_after S credited
      ∙ ap (λ cs. queued credited + length (excess_entries S cs credited)) waiting

  pub queue_after_turn_at_most : queued (turn S b) ≤ queued b + length b.pending_consolidations
  queue_after_turn_at_most =
      omega (
        arith,
        queue_after_turn,
        entries_at_most S b.pending_consolidations credited,
        ap queued (deposit_step_form S b),
        length-drop (length (credited_now S b)) b.pending_balance_deposits,
      )

-- ---- the books of scalars and tables

module _ (S : Settings) (s : Scalars) (t : Tables) where
  abbrev b : Books
  b = books_of s t

  pub queue_of_step : {found : ℕ} → found ≡ length (excess_entries S (consolidations_of s t.consolidations) b)
      → s.deposits + found ≡ queued (process_pending_consolidations S b)
  unfolding books_of
  queue_of_step e = omega (arith, e, queue_after S b, deposits_count s t)

  pub available_is : {allowance : ℕ} → allowance ≡ get_activation_exit_churn_limit S b
      → s.deposit_balance_to_consume.0 + allowance ≡ available_amount S b
  unfolding books_of
  available_is e = ap (λ n. s.deposit_balance_to_consume.0 + n) e

  waiting_deposits : {available : ℕ} → available ≡ available_amount S b
      → queued (process_pending_balance_deposits S b) ≡ length (deposited s t available).waiting
  unfolding books_of process_pending_balance_deposits
  waiting_deposits e = ap (λ a. length (deposited s t a).waiting) (sym e)

  waiting_consolidations : b.pending_consolidations ≡ consolidations_of s t.consolidations
  unfolding books_of
  waiting_consolidations = refl

  pub queue_of_turn : (paid : ℕ) {available found : ℕ} → available ≡ available_amount S b
      → (deposited s t available).waiting ≡ drop paid (deposits_of s t.deposits)
      → found
      ≡ length (excess_entries S (consolidations_of s t.consolidations) (process_pending_balance_deposits S b))
      → s.deposits - paid + found ≡ queued (turn S b)
  queue_of_turn paid e w f =
      let after = process_pending_balance_deposits S b in
      omega (
        arith,
        f,
        queue_after_turn S b,
        ap (λ cs. length (excess_entries S cs after)) waiting_consolidations,
        waiting_deposits e,
        ap length w,
        length-drop paid (deposits_of s t.deposits),
        length_rows s.deposits (deposit_at t.deposits),
      )

  -- an entry of every consolidation would fit
  module _ (limit : ℕ) (h : s.deposits + s.consolidations ≤ limit) where
    pub fits_uncounted : true ≡ leb (queued (process_pending_consolidations S b)) limit
    fits_uncounted =
        sym (le-leb (queued (process_pending_consolidations S b)) limit
        (omega (arith, queue_after_at_most S b, deposits_count s t, consolidations_count s t)))

    pub turn_fits_uncounted : true ≡ leb (queued (turn S b)) limit
    turn_fits_uncounted =
        sym (le-leb (queued (turn S b)) limit
        (omega (arith, queue_after_turn_at_most S b, deposits_count s t, consolidations_count s t)))
