-- The size of a receipt's result, from accepted books: the registry, the deposit queue and the sum can be too large.
use Rattle.std.specs.Prelude.{◌≡◌, refl, Bool, true, ◌&&◌, List, [], ◌∷◌, ℕ, ◌+◌, ◌<◌, length}
use Rattle.std.proofs.Math.Path.{ap}
use Rattle.std.proofs.Common.{ap₂, ◌∙◌, arith, length-append, le-leb}
use Rattle.std.proofs.Math.Dec.{leb}
use Rattle.lists.specs.Base.{when◌then◌else◌, all}
use Rattle.lists.specs.Laws.{by_test, and_true, every_append}
use Rattle.rules.specs.Types.{BOUND, Settings, PendingBalanceDeposit, Books}
use Rattle.rules.specs.Helpers.{count, queue_deposit}
use Rattle.rules.specs.Helpers.{switch_to_compounding_validator}
use Rattle.rules.specs.BlockProcessing.{add_validator_to_registry, get_validator_from_deposit}
use Rattle.rules.specs.Acceptance.{held, epochs_within, within_limits, sums_within, all_epochs_within}
use Rattle.rules.specs.Calls.{size_refusal}
use Rattle.rules.specs.Counting.{excess_entry}
use Rattle.rule_laws.specs.Accepted.{SoundBooks, epochs_so}
use Rattle.conservation.specs.Proofs.Operations.{added_flow, known_flow}
use Rattle.result_sizes.specs.Size.{size_number, size_by, limits_queue, sums_held}
use Rattle.result_sizes.specs.Steady.{Steady, beside, then_steady, switch_steady}
use Rattle.result_sizes.specs.Epoch.{steady_size, epochs_before}

module _ (S : Settings) (b : Books) (k : SoundBooks S b) where
  -- ---- a known key: its own entry, and the switch's where there is one

  abbrev known : (i amount : ℕ) → Bool → Books
  known i amount t =
      when t then switch_to_compounding_validator S i (queue_deposit i amount b) else queue_deposit i amount b

  queued_steady : (i amount : ℕ) → Steady b (queue_deposit i amount b)
  queued_steady i amount = beside b (queue_deposit i amount b) refl refl refl refl refl refl

  known_steady : (i amount : ℕ) (t : Bool) → Steady b (known i amount t)
  known_steady i amount t =
      by_test (λ (e : Books). Steady b e) t
      (λ h. then_steady (queued_steady i amount) (switch_steady S i (queue_deposit i amount b)))
      (λ h. queued_steady i amount)

  pub known_queue : (i amount : ℕ) (t : Bool) → i < count b
      → length (known i amount t).pending_balance_deposits
      ≡ length b.pending_balance_deposits + 1 + length (when t then excess_entry S i b else [])
  known_queue i amount t h =
      let entry : PendingBalanceDeposit = record { index = i; amount = amount } in
      let rest : List PendingBalanceDeposit = when t then excess_entry S i b else [] in
      ap length (known_flow S b i amount t h).order
      ∙ length-append b.pending_balance_deposits (entry ∷ rest)
      ∙ omega arith

  pub known_size : (i amount : ℕ) (t : Bool) → i < count b
      → size_refusal S (known i amount t)
      ≡ size_number
      (leb (length b.pending_balance_deposits + 1 + length (when t then excess_entry S i b else []))
      S.pending_balance_deposits_limit)
      (leb (held b + amount) BOUND) true
  known_size i amount t h =
      let e = known i amount t in
      let limit = S.pending_balance_deposits_limit in
      let sum : held e ≡ held b + amount = omega (arith, (known_flow S b i amount t h).sums) in
      steady_size S b k e (known_steady i amount t)
      ∙ ap₂ (λ (n m : ℕ). size_number (leb n limit) (leb m BOUND) true) (known_queue i amount t h) sum

  -- ---- an unknown key: one validator and one entry more

  abbrev added : (public_key withdrawal_credentials : List ℕ) → ℕ → Books
  added public_key withdrawal_credentials amount =
      add_validator_to_registry public_key withdrawal_credentials amount b

  added_limits : (public_key withdrawal_credentials : List ℕ) (amount : ℕ)
      → within_limits S (added public_key withdrawal_credentials amount)
      ≡ (leb (count b + 1) S.validator_registry_limit
      && leb (length b.pending_balance_deposits + 1) S.pending_balance_deposits_limit)
  unfolding within_limits all add_validator_to_registry
  added_limits public_key withdrawal_credentials amount =
      simp (length-append, and_true)

  added_epochs : (public_key withdrawal_credentials : List ℕ) (amount : ℕ)
      → all_epochs_within (added public_key withdrawal_credentials amount) ≡ true
  unfolding add_validator_to_registry
  added_epochs public_key withdrawal_credentials amount =
      let v = get_validator_from_deposit public_key withdrawal_credentials in
      epochs_so (added public_key withdrawal_credentials amount) (record {
        epoch_small = k.epoch_small;
        index_small = k.index_small;
        exit_epoch_small = k.exit_epoch_small;
        consolidation_epoch_small = k.consolidation_epoch_small;
        epochs = every_append epochs_within b.validators (v ∷ []) k.epochs refl;
        partial_epochs = k.partial_epochs;
      })

  added_sums : (public_key withdrawal_credentials : List ℕ) (amount : ℕ)
      → sums_within (added public_key withdrawal_credentials amount) ≡ leb (held b + amount) BOUND
  unfolding add_validator_to_registry
  added_sums public_key withdrawal_credentials amount =
      let e = added public_key withdrawal_credentials amount in
      let sum : held e ≡ held b + amount =
      omega (arith, (added_flow S b public_key withdrawal_credentials amount).sums) in
      sums_held e k.partials_small ∙ ap (λ (n : ℕ). leb n BOUND) sum

  pub added_size : (public_key withdrawal_credentials : List ℕ) (amount : ℕ)
      → size_refusal S (added public_key withdrawal_credentials amount)
      ≡ size_number
      (leb (count b + 1) S.validator_registry_limit
      && leb (length b.pending_balance_deposits + 1) S.pending_balance_deposits_limit)
      (leb (held b + amount) BOUND) true
  added_size public_key withdrawal_credentials amount =
      size_by S (added public_key withdrawal_credentials amount) _ _ _
      (added_limits public_key withdrawal_credentials amount)
      (added_sums public_key withdrawal_credentials amount)
      (added_epochs public_key withdrawal_credentials amount)

  -- nothing changes
  pub same_size : size_refusal S b ≡ 0
  same_size =
      size_by S b true true true
      (limits_queue S b k.registry_fits
      ∙ le-leb (length b.pending_balance_deposits) S.pending_balance_deposits_limit k.deposits_fit)
      (sums_held b k.partials_small ∙ le-leb (held b) BOUND k.held_small)
      (epochs_so b (epochs_before S b k))
