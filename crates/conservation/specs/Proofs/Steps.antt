-- The flow of the turn's steps.
use Rattle.std.specs.Prelude.{◌≡◌, Bool, ◌&&◌, ℕ, ◌+◌, ◌-◌, ◌≤◌, ◌<◌, ltb, eqb}
use Rattle.std.proofs.Math.Path.{refl, sym, ap}
use Rattle.std.proofs.Common.{◌∙◌}
use Rattle.std.proofs.Math.Bool.{true, false}
use mathlib.Core.List.{List, [], ◌∷◌, ◌++◌, append-nil}
use native.Mathlib.Omega.{arith}
use Rattle.std.proofs.Math.ListN.{length}
use borrow.Author.Tests.{ltb-true, ltb-false}
use Rattle.lists.specs.Base.{when◌then◌else◌, adjust, every, empty}
use Rattle.lists.specs.Laws.{by_test, both, length_adjust, total_adjust, total_append, total_map_same}
use Rattle.rules.specs.Types.{Settings, Validator, PendingBalanceDeposit, PendingConsolidation, Books}
use Rattle.rules.specs.Update.{with_validators, with_pending_balance_deposits, with_pending_consolidations}
use Rattle.rules.specs.Helpers.{at, no_validator, count, increased, decreased, has_eth1_withdrawal_credential}
use Rattle.rules.specs.Helpers.{get_active_balance, get_activation_exit_churn_limit, switch_to_compounding_validator}
use Rattle.rules.specs.EpochProcessing.{process_pending_balance_deposits, move_active_balance, consolidate}
use Rattle.rules.specs.EpochProcessing.{process_consolidations, process_pending_consolidations, updated}
use Rattle.rules.specs.EpochProcessing.{process_effective_balance_updates, turn}
use Rattle.rules.specs.Acceptance.{deposit_amounts, deposit_in, consolidation_in}
use Rattle.rules.specs.Counting.{nothing, queues, ◌⊕◌, excess_entry, excess_entries}
use Rattle.rules.specs.Counting.{deposit_step_counts, consolidation_step_counts}
use Rattle.rule_laws.specs.Deposits.{affordable_prefix, affordable_every, affordable_limit, credit_total, credit_length}
use Rattle.rule_laws.specs.Deposits.{credited_now, waiting_still, deposit_step, deposit_step_form}
use Rattle.rule_laws.specs.Switch.{switched, switched_books, switch_form, switch_count, consolidate_count}
use Rattle.conservation.specs.Proofs.Flow.{Flow, quiet, still, then_flow, counted_after, choose_queued}

abbrev pub deposit_amount : PendingBalanceDeposit → ℕ
deposit_amount d = d.amount

abbrev pub balance : Validator → ℕ
balance v = v.balance

-- ---- the deposit step

module _ (S : Settings) (b : Books) where
  abbrev available : ℕ
  available = b.deposit_balance_to_consume + get_activation_exit_churn_limit S b

  deposit_step_flow : every (deposit_in (count b)) b.pending_balance_deposits ≡ true
      → Flow (deposit_step_counts S b) b (deposit_step S b)
  unfolding deposit_step_counts
  deposit_step_flow p =
      let queue = b.pending_balance_deposits in
      let paid = credited_now S b in
      let waiting = waiting_still S b in
      let split = affordable_prefix available 0 queue in
      let ok = affordable_every (deposit_in (count b)) available 0 queue p in
      let within = affordable_limit available 0 queue (omega arith) in
      record {
        sums =
            omega (
              arith,
              credit_total (count b) paid b.validators refl ok,
              ap deposit_amounts split,
              total_append deposit_amount paid waiting,
            );
        order = split ∙ sym (append-nil queue);
        spent =
            by_test (λ (c : ℕ). deposit_amounts paid + c ≤ available) (empty waiting)
            (λ e. omega (arith, within))
            (λ e. omega (arith, within));
      }

  pub deposit_flow : every (deposit_in (count b)) b.pending_balance_deposits ≡ true
      → Flow (deposit_step_counts S b) b (process_pending_balance_deposits S b)
  deposit_flow p = rw (deposit_step_form S b) (deposit_step_flow p)

  pub deposit_count : count (process_pending_balance_deposits S b) ≡ count b
  deposit_count = ap count (deposit_step_form S b) ∙ credit_length (credited_now S b) b.validators

  deposit_consolidations : (process_pending_balance_deposits S b).pending_consolidations ≡ b.pending_consolidations
  unfolding process_pending_balance_deposits
  deposit_consolidations = refl

-- ---- the consolidation step

module _ (S : Settings) where
  -- the switch with its entry given
  abbrev switched_with : ℕ → Books → List PendingBalanceDeposit → Books
  switched_with i b entry =
      with_pending_balance_deposits (b.pending_balance_deposits ++ entry)
      (with_validators (adjust i (switched S) b.validators) b)

  abbrev excess : ℕ → Books → ℕ
  excess i b = (at b.validators i).balance - S.min_activation_balance

  abbrev excess_deposit : ℕ → Books → List PendingBalanceDeposit
  excess_deposit i b = record { index = i; amount = excess i b } ∷ []

  -- the two tests of a switch as variables, so that the claim goes by their cases
  switch_cases : (i : ℕ) (b : Books) (t u : Bool) → i < count b → ltb 0 (excess i b) ≡ u
      → Flow (queues (when t && u then excess_deposit i b else [])) b
      (when t then switched_with i b (when t && u then excess_deposit i b else []) else b)
  unfolding when◌then◌else◌
  switch_cases i b true true h e = record {
    sums =
        omega (
          arith,
          total_adjust balance i (switched S) b.validators no_validator h,
          total_append deposit_amount b.pending_balance_deposits (excess_deposit i b),
        );
    order = refl;
    spent = omega arith;
  }
  switch_cases i b true false h e = record {
    sums =
        omega (
          arith,
          ltb-false 0 (excess i b) e,
          total_adjust balance i (switched S) b.validators no_validator h,
          total_append deposit_amount b.pending_balance_deposits [],
        );
    order = refl;
    spent = omega arith;
  }
  switch_cases i b false u h e = still b

  switched_flow : (i : ℕ) (b : Books) → i < count b → Flow (queues (excess_entry S i b)) b
      (when has_eth1_withdrawal_credential (at b.validators i) then switched_books S i b else b)
  unfolding excess_entry
  switched_flow i b h =
      switch_cases i b (has_eth1_withdrawal_credential (at b.validators i)) (ltb 0 (excess i b)) h refl

  pub switch_flow : (i : ℕ) (b : Books) → i < count b
      → Flow (queues (excess_entry S i b)) b (switch_to_compounding_validator S i b)
  switch_flow i b h = rw (switch_form S i b) (switched_flow i b h)

  pub move_flow : (s t : ℕ) (b : Books) → s < count b → t < count b → Flow nothing b (move_active_balance S s t b)
  unfolding move_active_balance
  move_flow s t b hs ht =
      let amount = get_active_balance S (at b.validators s) in
      let vs = adjust s (decreased amount) b.validators in
      let k : t < length vs = omega (arith, length_adjust s (decreased amount) b.validators) in
      record {
        sums =
            omega (
              arith,
              total_adjust balance s (decreased amount) b.validators no_validator hs,
              total_adjust balance t (increased amount) vs no_validator k,
            );
        order = sym (append-nil b.pending_balance_deposits);
        spent = omega arith;
      }

  pub consolidate_flow : (c : PendingConsolidation) (b : Books) → consolidation_in (count b) c ≡ true
      → Flow (queues (excess_entry S c.target_index b)) b (consolidate S c b)
  unfolding consolidate
  consolidate_flow c b p =
      let s = both (ltb c.source_index (count b)) (ltb c.target_index (count b)) p in
      let hs : c.source_index < count b = ltb-true c.source_index (count b) s.0 in
      let ht : c.target_index < count b = ltb-true c.target_index (count b) s.1 in
      let n = switch_count S c.target_index b in
      let b₁ = switch_to_compounding_validator S c.target_index b in
      rw (← counted_after (queues (excess_entry S c.target_index b)))
      (then_flow
      (switch_flow c.target_index b ht)
      (move_flow c.source_index c.target_index b₁ (omega arith) (omega arith)))

  pub consolidations_flow : (cs : List PendingConsolidation) (b : Books) → every (consolidation_in (count b)) cs ≡ true
      → Flow (queues (excess_entries S cs b)) b (process_consolidations S cs b)
  unfolding process_consolidations excess_entries
  consolidations_flow [] b p =
      record { sums = refl; order = sym (append-nil b.pending_balance_deposits); spent = omega arith }
  consolidations_flow (c ∷ cs) b p =
      let source = at b.validators c.source_index in
      let s = both (consolidation_in (count b) c) (every (consolidation_in (count b)) cs) p in
      let q : every (consolidation_in (count (consolidate S c b))) cs ≡ true = rw (consolidate_count S c b) s.1 in
      choose_queued (eqb source.slashed 1) (consolidations_flow cs b s.1)
      (choose_queued (ltb b.epoch source.withdrawable_epoch)
      (quiet b (with_pending_consolidations (c ∷ cs) b) refl refl refl)
      (then_flow (consolidate_flow c b s.0) (consolidations_flow cs (consolidate S c b) q)))

  pub consolidation_flow : (b : Books) → every (consolidation_in (count b)) b.pending_consolidations ≡ true
      → Flow (consolidation_step_counts S b) b (process_pending_consolidations S b)
  unfolding process_pending_consolidations consolidation_step_counts
  consolidation_flow b p = consolidations_flow b.pending_consolidations b p

  -- ---- the effective balance step, and the turn

  updated_balance : (v : Validator) → (updated S v).balance ≡ v.balance
  unfolding updated
  updated_balance v = refl

  pub effective_flow : (b : Books) → Flow nothing b (process_effective_balance_updates S b)
  unfolding process_effective_balance_updates
  effective_flow b = quiet b _ (total_map_same balance (updated S) b.validators updated_balance) refl refl

  pub turn_flow : (b : Books) → every (deposit_in (count b)) b.pending_balance_deposits ≡ true
      → every (consolidation_in (count b)) b.pending_consolidations ≡ true
      → Flow (deposit_step_counts S b ⊕ consolidation_step_counts S (process_pending_balance_deposits S b)) b (turn S b)
  unfolding turn
  turn_flow b p q =
      let b₁ = process_pending_balance_deposits S b in
      let b₂ = process_pending_consolidations S b₁ in
      let n = deposit_step_counts S b ⊕ consolidation_step_counts S b₁ in
      let q₁ : every (consolidation_in (count b₁)) b₁.pending_consolidations ≡ true =
      rw (deposit_count S b, deposit_consolidations S b) q in
      let f : Flow (n ⊕ nothing) b (process_effective_balance_updates S b₂) =
      then_flow (then_flow (deposit_flow S b p) (consolidation_flow b₁ q₁)) (effective_flow b₂) in
      let g : Flow n b (process_effective_balance_updates S b₂) = rw (counted_after n) at f in
      record { sums = g.sums; order = g.order; spent = g.spent }
