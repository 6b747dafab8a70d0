-- The size of the results of exits, requests, consolidation calls, withdrawals and receipts, from accepted books.
use Rattle.std.specs.Prelude.{◌≡◌, List, [], ◌∷◌, ◌++◌, ℕ, ◌+◌, ◌≤◌, ◌<◌, leb}
use Rattle.std.proofs.Math.Path.{refl}
use Rattle.std.proofs.Common.{ap, ◌∙◌}
use Rattle.std.proofs.Math.Bool.{true}
use native.Mathlib.Omega.{arith}
use Rattle.std.proofs.Math.ListN.{length}
use borrow.Author.Tests.{leb-true, le-leb, eq-eqb}
use Rattle.lists.specs.Base.{adjust, every}
use Rattle.lists.specs.Laws.{if_true, length_adjust, every_at, every_drop, every_append_one, total_append, total_drop}
use Rattle.rules.specs.Types.{FAR, BOUND, Settings, PendingPartialWithdrawal, Withdrawal, Books}
use Rattle.rules.specs.Update.{with_exit, with_exit_churn, with_validators, with_pending_partial_withdrawals}
use Rattle.rules.specs.Helpers.{at, no_validator, count, get_activation_exit_churn_limit}
use Rattle.rules.specs.Helpers.{compute_activation_exit_epoch, compute_exit_epoch_and_update_churn}
use Rattle.rules.specs.Helpers.{get_consolidation_churn_limit, compute_consolidation_epoch_and_update_churn}
use Rattle.rules.specs.Helpers.{initiate_validator_exit}
use Rattle.rules.specs.BlockProcessing.{expected_partial_withdrawals, next_index, process_withdrawals}
use Rattle.rules.specs.BlockProcessing.{process_consolidation}
use Rattle.rules.specs.Acceptance.{held, partial_amounts, effective_within, epochs_within, partial_epoch_within}
use Rattle.rules.specs.Calls.{size_refusal}
use Rattle.rule_laws.specs.Accepted.{SoundSettings, SoundBooks}
use Rattle.rule_laws.specs.Churn.{assigned_epoch}
use Rattle.rule_laws.specs.Withdrawals.{pay_length, pay_every}
use Rattle.conservation.specs.Proofs.Flow.{Flow}
use Rattle.conservation.specs.Proofs.Operations.{exit_flow, consolidation_call_flow, withdrawals_flow}
use Rattle.result_sizes.specs.Size.{size_number, size_by, limits_queue, sums_held, sums_partials, epochs_index}
use Rattle.result_sizes.specs.Exits.{within, exiting_every, epochs_exit, epochs_consolidation}
use Rattle.result_sizes.specs.Exits.{epochs_partial}

abbrev partial_amount : PendingPartialWithdrawal → ℕ
partial_amount p = p.amount

module _ (S : Settings) (σ : SoundSettings S) (b : Books) (k : SoundBooks S b) where
  -- the last epoch that an assignment of an amount leads to
  abbrev exit_last : ℕ → ℕ
  exit_last amount = (compute_exit_epoch_and_update_churn S b amount).epoch + S.min_validator_withdrawability_delay

  abbrev consolidation_last : ℕ → ℕ
  consolidation_last amount =
      (compute_consolidation_epoch_and_update_churn S b amount).epoch + S.min_validator_withdrawability_delay

  pub exit_near : (amount : ℕ) → amount ≤ BOUND → exit_last amount < FAR
  unfolding compute_exit_epoch_and_update_churn
  exit_near amount h =
      omega (
        arith,
        k.exit_epoch_small,
        k.epoch_small,
        σ.lookahead,
        σ.delay,
        assigned_epoch b.exit_balance_to_consume b.earliest_exit_epoch (compute_activation_exit_epoch S b)
            (get_activation_exit_churn_limit S b) amount,
      )

  pub consolidation_near : (amount : ℕ) → amount ≤ BOUND → consolidation_last amount < FAR
  unfolding compute_consolidation_epoch_and_update_churn
  consolidation_near amount h =
      omega (
        arith,
        k.consolidation_epoch_small,
        k.epoch_small,
        σ.lookahead,
        σ.delay,
        assigned_epoch b.consolidation_balance_to_consume b.earliest_consolidation_epoch
            (compute_activation_exit_epoch S b) (get_consolidation_churn_limit S b) amount,
      )

  pub effective_small : (i : ℕ) → i < count b → (at b.validators i).effective_balance ≤ BOUND
  effective_small i h =
      let v = at b.validators i in
      let m : v.effective_balance ≤ S.max_effective_balance_electra =
      leb-true v.effective_balance S.max_effective_balance_electra
      (every_at (effective_within S) i b.validators no_validator h k.effective) in
      omega (arith, m, σ.max_effective_balance)

  -- ---- an exit that begins

  abbrev exiting : ℕ → Books
  exiting i =
      let a = compute_exit_epoch_and_update_churn S b (at b.validators i).effective_balance in
      with_exit_churn a.left a.epoch
      (with_validators
      (adjust i (with_exit a.epoch (a.epoch + S.min_validator_withdrawability_delay)) b.validators) b)

  pub exit_form : (i : ℕ) → (at b.validators i).exit_epoch ≡ FAR → initiate_validator_exit S i b ≡ exiting i
  unfolding initiate_validator_exit
  exit_form i h = if_true _ _ _ (eq-eqb (at b.validators i).exit_epoch FAR h)

  exiting_held : (i : ℕ) → (at b.validators i).exit_epoch ≡ FAR → held (exiting i) ≡ held b
  exiting_held i h =
      let f : Flow _ b (exiting i) = rw (exit_form i h) at (exit_flow S b i) in
      omega (arith, f.sums)

  pub exit_size : (i : ℕ) → i < count b → (at b.validators i).exit_epoch ≡ FAR
      → size_refusal S (initiate_validator_exit S i b)
      ≡ size_number true true (leb (exit_last (at b.validators i).effective_balance) BOUND)
  exit_size i h far =
      let amount = (at b.validators i).effective_balance in
      let x = (compute_exit_epoch_and_update_churn S b amount).epoch in
      let w = exit_last amount in
      let near = exit_near amount (effective_small i h) in
      let ordered : x ≤ w = omega arith in
      let e = exiting i in
      ap (size_refusal S) (exit_form i far)
      ∙ size_by S e true true (leb w BOUND)
      (limits_queue S e (omega (arith, length_adjust i (with_exit x w) b.validators, k.registry_fits))
      ∙ le-leb (length b.pending_balance_deposits) S.pending_balance_deposits_limit k.deposits_fit)
      (sums_held e k.partials_small ∙ le-leb (held e) BOUND (omega (arith, exiting_held i far, k.held_small)))
      (epochs_exit e x w near ordered k.epoch_small k.index_small refl k.consolidation_epoch_small
      (exiting_every x w near ordered i b.validators h k.epochs) k.partial_epochs)

  -- ---- a consolidation call

  pub consolidation_size : (s t : ℕ) → s < count b
      → size_refusal S (process_consolidation S s t b)
      ≡ size_number true true (leb (consolidation_last (at b.validators s).effective_balance) BOUND)
  unfolding process_consolidation
  consolidation_size s t h =
      let amount = (at b.validators s).effective_balance in
      let x = (compute_consolidation_epoch_and_update_churn S b amount).epoch in
      let w = consolidation_last amount in
      let near = consolidation_near amount (effective_small s h) in
      let ordered : x ≤ w = omega arith in
      let e = process_consolidation S s t b in
      size_by S e true true (leb w BOUND)
      (limits_queue S e (omega (arith, length_adjust s (with_exit x w) b.validators, k.registry_fits))
      ∙ le-leb (length b.pending_balance_deposits) S.pending_balance_deposits_limit k.deposits_fit)
      (sums_held e k.partials_small
      ∙ le-leb (held e) BOUND (omega (arith, (consolidation_call_flow S b s t).sums, k.held_small)))
      (epochs_consolidation e x w near ordered k.epoch_small k.index_small k.exit_epoch_small refl
      (exiting_every x w near ordered s b.validators h k.epochs) k.partial_epochs)

  -- ---- withdrawals

  pub withdrawals_size : (ws : List Withdrawal)
      → size_refusal S (process_withdrawals S ws b) ≡ size_number true true (leb (next_index b ws) BOUND)
  unfolding process_withdrawals
  withdrawals_size ws =
      let e = process_withdrawals S ws b in
      let paid = length (expected_partial_withdrawals S b) in
      size_by S e true true (leb (next_index b ws) BOUND)
      (limits_queue S e (omega (arith, pay_length ws b.validators, k.registry_fits))
      ∙ le-leb (length b.pending_balance_deposits) S.pending_balance_deposits_limit k.deposits_fit)
      (sums_held e (omega (arith, k.partials_small, total_drop partial_amount paid b.pending_partial_withdrawals))
      ∙ le-leb (held e) BOUND (omega (arith, (withdrawals_flow S b ws).sums, k.held_small)))
      (epochs_index e k.epoch_small k.exit_epoch_small k.consolidation_epoch_small
      (pay_every epochs_within (λ v n p. p) ws b.validators k.epochs)
      (every_drop partial_epoch_within paid b.pending_partial_withdrawals k.partial_epochs))

  -- ---- a partial request that is queued

  abbrev entry : (i amount : ℕ) → PendingPartialWithdrawal
  entry i amount = record { index = i; amount = amount; withdrawable_epoch = exit_last amount }

  abbrev requested : (i amount : ℕ) → Books
  requested i amount =
      let a = compute_exit_epoch_and_update_churn S b amount in
      with_exit_churn a.left a.epoch
      (with_pending_partial_withdrawals (b.pending_partial_withdrawals ++ (entry i amount ∷ [])) b)

  partial_epochs_more : (w : ℕ) → w < FAR → (i amount : ℕ)
      → every partial_epoch_within
      (b.pending_partial_withdrawals ++ (record { index = i; amount = amount; withdrawable_epoch = w } ∷ []))
      ≡ leb w BOUND
  partial_epochs_more w near i amount =
      every_append_one partial_epoch_within b.pending_partial_withdrawals _ k.partial_epochs ∙ within w near

  pub request_size : (i amount : ℕ) → amount ≤ BOUND
      → size_refusal S (requested i amount)
      ≡ size_number true (leb (partial_amounts b + amount) BOUND) (leb (exit_last amount) BOUND)
  request_size i amount h =
      let x = (compute_exit_epoch_and_update_churn S b amount).epoch in
      let w = exit_last amount in
      let near = exit_near amount h in
      let ordered : x ≤ w = omega arith in
      let e = requested i amount in
      let sum : partial_amounts e ≡ partial_amounts b + amount =
      omega (arith, total_append partial_amount b.pending_partial_withdrawals (entry i amount ∷ [])) in
      size_by S e true (leb (partial_amounts b + amount) BOUND) (leb w BOUND)
      (limits_queue S e k.registry_fits
      ∙ le-leb (length b.pending_balance_deposits) S.pending_balance_deposits_limit k.deposits_fit)
      (sums_partials e k.held_small ∙ ap (λ (n : ℕ). leb n BOUND) sum)
      (epochs_partial e x w near ordered k.epoch_small k.index_small refl k.consolidation_epoch_small
      k.epochs
      (partial_epochs_more w near i amount))
