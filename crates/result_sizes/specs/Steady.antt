-- Changes that keep the epoch, the count, the waiting partials and every epoch within its bound.
use Rattle.std.specs.Prelude.{◌≡◌, refl, true, ℕ, length}
use Rattle.std.proofs.Common.{ap, ◌∙◌}
use mathlib.Core.List.{List, [], ◌∷◌}
use Rattle.std.proofs.lemmas.List.{length-map}
use Rattle.lists.specs.Base.{adjust, every}
use Rattle.lists.specs.Laws.{by_test, length_adjust, every_adjust, every_map}
use Rattle.rules.specs.Types.{Settings, Validator, PendingConsolidation, Books}
use Rattle.rules.specs.Update.{with_validators, with_pending_consolidations}
use Rattle.rules.specs.Helpers.{count, increased, decreased, switch_to_compounding_validator}
use Rattle.rules.specs.EpochProcessing.{process_pending_balance_deposits, move_active_balance, consolidate}
use Rattle.rules.specs.EpochProcessing.{process_consolidations, process_pending_consolidations, updated}
use Rattle.rules.specs.EpochProcessing.{process_effective_balance_updates}
use Rattle.rules.specs.Acceptance.{epochs_within}
use Rattle.rule_laws.specs.Accepted.{Epochs}
use Rattle.rule_laws.specs.Deposits.{credit, credit_length, credit_every, credited_now, deposit_step, deposit_step_form}
use Rattle.rule_laws.specs.Switch.{switched, switched_books, switch_form}

pub record Steady (b e : Books) : Type 0 where
  pub epoch : e.epoch ≡ b.epoch
  pub size : count e ≡ count b
  pub partials : e.pending_partial_withdrawals ≡ b.pending_partial_withdrawals
  pub epochs : Epochs b → Epochs e

pub unchanged : (b : Books) → Steady b b
unchanged b = record { epoch = refl; size = refl; partials = refl; epochs = λ k. k }

pub then_steady : {b c e : Books} → Steady b c → Steady c e → Steady b e
then_steady f g = record {
  epoch = g.epoch ∙ f.epoch;
  size = g.size ∙ f.size;
  partials = g.partials ∙ f.partials;
  epochs = λ k. g.epochs (f.epochs k);
}

-- epochs, index and tables that are the same
same_epochs : (b e : Books) → e.epoch ≡ b.epoch → e.next_withdrawal_index ≡ b.next_withdrawal_index
    → e.earliest_exit_epoch ≡ b.earliest_exit_epoch
    → e.earliest_consolidation_epoch ≡ b.earliest_consolidation_epoch
    → (every epochs_within b.validators ≡ true → every epochs_within e.validators ≡ true)
    → e.pending_partial_withdrawals ≡ b.pending_partial_withdrawals → Epochs b → Epochs e
same_epochs b e p₁ p₂ p₃ p₄ v q k = record {
  epoch_small = rw p₁ k.epoch_small;
  index_small = rw p₂ k.index_small;
  exit_epoch_small = rw p₃ k.exit_epoch_small;
  consolidation_epoch_small = rw p₄ k.consolidation_epoch_small;
  epochs = v k.epochs;
  partial_epochs = rw q k.partial_epochs;
}

-- a change of nothing that `Steady` looks at
pub beside : (b e : Books) → e.validators ≡ b.validators → e.epoch ≡ b.epoch
    → e.next_withdrawal_index ≡ b.next_withdrawal_index → e.earliest_exit_epoch ≡ b.earliest_exit_epoch
    → e.earliest_consolidation_epoch ≡ b.earliest_consolidation_epoch
    → e.pending_partial_withdrawals ≡ b.pending_partial_withdrawals → Steady b e
beside b e v p₁ p₂ p₃ p₄ q = record {
  epoch = p₁;
  size = ap length v;
  partials = q;
  epochs = λ k. same_epochs b e p₁ p₂ p₃ p₄ (λ h. rw v h) q k;
}

-- other validators, as many, with epochs within the bound
revalued : (b : Books) (vs : List Validator) → length vs ≡ count b
    → (every epochs_within b.validators ≡ true → every epochs_within vs ≡ true) → Steady b (with_validators vs b)
revalued b vs n h = record {
  epoch = refl;
  size = n;
  partials = refl;
  epochs = λ k. same_epochs b (with_validators vs b) refl refl refl refl h refl k;
}

pub adjusted_steady : (i : ℕ) (g : Validator → Validator) (b : Books)
    → ((v : Validator) → epochs_within v ≡ true → epochs_within (g v) ≡ true)
    → Steady b (with_validators (adjust i g b.validators) b)
adjusted_steady i g b h =
    revalued b (adjust i g b.validators) (length_adjust i g b.validators)
    (λ p. every_adjust epochs_within i g b.validators h p)

pub deposit_steady : (S : Settings) (b : Books) → Steady b (process_pending_balance_deposits S b)
deposit_steady S b =
    let paid = credited_now S b in
    let vs = credit paid b.validators in
    rw (deposit_step_form S b)
    (then_steady
    (revalued b vs (credit_length paid b.validators)
    (λ p. credit_every epochs_within (λ v n q. q) paid b.validators p))
    (beside (with_validators vs b) (deposit_step S b) refl refl refl refl refl refl))

module _ (S : Settings) where
  pub switch_steady : (i : ℕ) (b : Books) → Steady b (switch_to_compounding_validator S i b)
  switch_steady i b =
      rw (switch_form S i b)
      (by_test (λ (e : Books). Steady b e) _
      (λ e. then_steady (adjusted_steady i (switched S) b (λ v p. p))
      (beside _ (switched_books S i b) refl refl refl refl refl refl))
      (λ e. unchanged b))

  move_steady : (s t : ℕ) (b : Books) → Steady b (move_active_balance S s t b)
  unfolding move_active_balance
  move_steady s t b =
      then_steady (adjusted_steady s (decreased _) b (λ v p. p)) (adjusted_steady t (increased _) _ (λ v p. p))

  consolidate_steady : (c : PendingConsolidation) (b : Books) → Steady b (consolidate S c b)
  unfolding consolidate
  consolidate_steady c b = then_steady (switch_steady c.target_index b) (move_steady _ c.target_index _)

  rest_steady : (cs : List PendingConsolidation) (b : Books) → Steady b (with_pending_consolidations cs b)
  rest_steady cs b = beside b (with_pending_consolidations cs b) refl refl refl refl refl refl

  consolidations_steady : (cs : List PendingConsolidation) (b : Books) → Steady b (process_consolidations S cs b)
  unfolding process_consolidations
  consolidations_steady [] b = rest_steady [] b
  consolidations_steady (c ∷ cs) b =
      let P : Books → Type 0 = λ e. Steady b e in
      by_test P _ (λ e. consolidations_steady cs b)
      (λ e. by_test P _
      (λ e. rest_steady (c ∷ cs) b)
      (λ e. then_steady (consolidate_steady c b) (consolidations_steady cs (consolidate S c b))))

  pub consolidation_steady : (b : Books) → Steady b (process_pending_consolidations S b)
  unfolding process_pending_consolidations
  consolidation_steady b = consolidations_steady b.pending_consolidations b

  updated_epochs : (v : Validator) → epochs_within v ≡ true → epochs_within (updated S v) ≡ true
  unfolding updated
  updated_epochs v p = p

  pub effective_steady : (b : Books) → Steady b (process_effective_balance_updates S b)
  unfolding process_effective_balance_updates
  effective_steady b =
      revalued b _ (length-map b.validators (updated S))
      (λ p. every_map epochs_within (updated S) b.validators updated_epochs p)
