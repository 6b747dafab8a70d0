-- The size of the results of rewards, penalties, the three steps and the turn, from accepted books.
use Rattle.std.specs.Prelude.{◌≡◌, refl, true, ℕ, ◌+◌, ◌≤◌, ◌<◌}
use Rattle.std.proofs.Math.Path.{ap}
use Rattle.std.proofs.Common.{◌∙◌, arith, length-drop}
use Rattle.std.proofs.Math.ListN.{length}
use Rattle.std.proofs.Math.Dec.{leb}
use borrow.Author.Tests.{le-leb}
use Rattle.lists.specs.Base.{total}
use Rattle.rules.specs.Types.{BOUND, Settings, Books}
use Rattle.rules.specs.Helpers.{count, increased, decreased, increase_balance, decrease_balance}
use Rattle.rules.specs.EpochProcessing.{process_pending_balance_deposits, process_pending_consolidations}
use Rattle.rules.specs.EpochProcessing.{process_effective_balance_updates, turn}
use Rattle.rules.specs.Acceptance.{held, partial_amounts, within_limits, sums_within, all_epochs_within}
use Rattle.rules.specs.Calls.{size_refusal}
use Rattle.rules.specs.Counting.{deposit_step_counts, consolidation_step_counts}
use Rattle.rule_laws.specs.Accepted.{SoundBooks, Epochs, epochs_so}
use Rattle.rule_laws.specs.Deposits.{deposit_step_form}
use Rattle.conservation.specs.Proofs.Steps.{deposit_flow, consolidation_flow, effective_flow, turn_flow}
use Rattle.conservation.specs.Proofs.Operations.{reward_flow, penalty_flow}
use Rattle.result_sizes.specs.Size.{size_number, size_by, limits_queue, sums_held, epochs_epoch}
use Rattle.result_sizes.specs.Steady.{Steady, then_steady, adjusted_steady}
use Rattle.result_sizes.specs.Steady.{deposit_steady, consolidation_steady, effective_steady}

-- what accepted books say of epochs
pub epochs_before : (S : Settings) (b : Books) → SoundBooks S b → Epochs b
epochs_before S b k = record {
  epoch_small = k.epoch_small;
  index_small = k.index_small;
  exit_epoch_small = k.exit_epoch_small;
  consolidation_epoch_small = k.consolidation_epoch_small;
  epochs = k.epochs;
  partial_epochs = k.partial_epochs;
}

same_queue : (S : Settings) (b : Books) → length (process_effective_balance_updates S b).pending_balance_deposits
    ≡ length b.pending_balance_deposits
unfolding process_effective_balance_updates
same_queue S b = refl

module _ (S : Settings) (b : Books) (k : SoundBooks S b) where
  -- the same partial amounts
  partials_small : (e : Books) → Steady b e → partial_amounts e ≤ BOUND
  partials_small e s = omega (arith, k.partials_small, ap (total (λ p. p.amount)) s.partials)

  registry_small : (e : Books) → Steady b e → count e ≤ S.validator_registry_limit
  registry_small e s = omega (arith, k.registry_fits, s.size)

  -- a steady change: the deposit queue and what is held decide
  pub steady_size : (e : Books) → Steady b e → size_refusal S e
      ≡ size_number
      (leb (length e.pending_balance_deposits) S.pending_balance_deposits_limit)
      (leb (held e) BOUND) true
  steady_size e s =
      size_by S e _ _ _ (limits_queue S e (registry_small e s)) (sums_held e (partials_small e s))
      (epochs_so e (s.epochs (epochs_before S b k)))

  -- a steady change that holds no more and queues no more
  steady_none : (e : Books) → Steady b e → held e ≤ held b
      → length e.pending_balance_deposits ≤ length b.pending_balance_deposits → size_refusal S e ≡ 0
  steady_none e s h q =
      steady_size e s
      ∙ rw (
        le-leb (length e.pending_balance_deposits) S.pending_balance_deposits_limit
            (omega (arith, k.deposits_fit)),
        le-leb (held e) BOUND (omega (arith, k.held_small)),
      )

  pub reward_size : (i amount : ℕ) → i < count b
      → size_refusal S (increase_balance i amount b) ≡ size_number true (leb (held b + amount) BOUND) true
  reward_size i amount h =
      let e = increase_balance i amount b in
      let f = reward_flow S b i amount h in
      let n : held e ≡ held b + amount = omega (arith, f.sums) in
      steady_size e (adjusted_steady i (increased amount) b (λ v p. p))
      ∙ rw (le-leb (length b.pending_balance_deposits) S.pending_balance_deposits_limit k.deposits_fit, n)

  pub penalty_size : (i amount : ℕ) → size_refusal S (decrease_balance i amount b) ≡ 0
  penalty_size i amount =
      steady_none (decrease_balance i amount b) (adjusted_steady i (decreased amount) b (λ v p. p))
      (omega (arith, (penalty_flow S b i amount).sums)) (omega arith)

  pub deposits_size : size_refusal S (process_pending_balance_deposits S b) ≡ 0
  unfolding deposit_step_counts
  deposits_size =
      let e = process_pending_balance_deposits S b in
      let f = deposit_flow S b k.deposits_in in
      let q : length e.pending_balance_deposits ≤ length b.pending_balance_deposits =
      rw (deposit_step_form S b, length-drop) (omega arith) in
      steady_none e (deposit_steady S b) (omega (arith, f.sums)) q

  -- the step conserves what is held, so that only the queue can be too long
  pub consolidations_size : size_refusal S (process_pending_consolidations S b)
      ≡ size_number
      (leb (length (process_pending_consolidations S b).pending_balance_deposits) S.pending_balance_deposits_limit)
      true true
  unfolding consolidation_step_counts
  consolidations_size =
      let e = process_pending_consolidations S b in
      let f = consolidation_flow S b k.consolidations_in in
      steady_size e (consolidation_steady S b) ∙ rw (le-leb (held e) BOUND (omega (arith, f.sums, k.held_small)))

  pub effective_size : size_refusal S (process_effective_balance_updates S b) ≡ 0
  effective_size =
      let e = process_effective_balance_updates S b in
      steady_none e (effective_steady S b) (omega (arith, (effective_flow S b).sums)) (omega (arith, same_queue S b))

  -- the three steps of a turn, before the epoch
  abbrev stepped : Books
  stepped =
      process_effective_balance_updates S (process_pending_consolidations S (process_pending_balance_deposits S b))

  stepped_steady : Steady b stepped
  stepped_steady =
      then_steady (then_steady (deposit_steady S b) (consolidation_steady S _)) (effective_steady S _)

  turn_held : held (turn S b) ≤ BOUND
  unfolding deposit_step_counts consolidation_step_counts
  turn_held = omega (arith, (turn_flow S b k.deposits_in k.consolidations_in).sums, k.held_small)

  turn_epochs : all_epochs_within (turn S b) ≡ leb (b.epoch + 1) BOUND
  unfolding turn
  turn_epochs =
      let q = stepped_steady.epochs (epochs_before S b k) in
      epochs_epoch (turn S b) q.index_small q.exit_epoch_small q.consolidation_epoch_small q.epochs
      q.partial_epochs
      ∙ ap (λ (n : ℕ). leb (n + 1) BOUND) stepped_steady.epoch

  turn_limits : within_limits S (turn S b)
      ≡ leb (length (turn S b).pending_balance_deposits) S.pending_balance_deposits_limit
  unfolding turn
  turn_limits = limits_queue S (turn S b) (registry_small stepped stepped_steady)

  turn_sums : sums_within (turn S b) ≡ true
  unfolding turn
  turn_sums = sums_held (turn S b) (partials_small stepped stepped_steady) ∙ le-leb (held (turn S b)) BOUND turn_held

  pub turn_size : size_refusal S (turn S b)
      ≡ size_number
      (leb (length (turn S b).pending_balance_deposits) S.pending_balance_deposits_limit)
      true (leb (b.epoch + 1) BOUND)
  turn_size = size_by S (turn S b) _ _ _ turn_limits turn_sums turn_epochs
