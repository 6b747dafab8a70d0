-- Accepted settings and books as facts.
use Rattle.std.specs.Prelude.{◌≡◌, true, ℕ, ◌^◌, ◌≤◌, ◌<◌, length, leb}
use Rattle.std.proofs.Common.{ltb-true, leb-true, le-leb, lt-ltb}
use Rattle.lists.specs.Base.{every}
use Rattle.lists.specs.Laws.{both, join, nth, all_none, all_more}
use Rattle.rules.specs.Types.{BOUND, Settings, Books}
use Rattle.rules.specs.Helpers.{count}
use Rattle.rules.specs.Acceptance.{is_limit, sound_settings, sound_books, held, partial_amounts}
use Rattle.rules.specs.Acceptance.{deposit_in, partial_in, consolidation_in, effective_within, is_flag}
use Rattle.rules.specs.Acceptance.{epochs_within, partial_epoch_within}
use Rattle.rules.specs.Acceptance.{within_limits, sums_within, all_epochs_within}

-- ---- settings

pub record Limit (n : ℕ) : Type 0 where
  pub least : 1 ≤ n
  pub most : n ≤ 65536

limit : (n : ℕ) → is_limit n ≡ true → Limit n
limit n e =
    let s = both (leb 1 n) (leb n 65536) e in
    record { least = leb-true 1 n s.0; most = leb-true n 65536 s.1 }

limit_so : (n : ℕ) → Limit n → is_limit n ≡ true
limit_so n l = join (le-leb 1 n l.least) (le-leb n 65536 l.most)

pub record SoundSettings (S : Settings) : Type 0 where
  pub min_activation_balance : S.min_activation_balance ≤ 2 ^ 44
  pub max_effective_balance : S.max_effective_balance_electra ≤ 2 ^ 44
  pub increment : S.effective_balance_increment ≤ 2 ^ 44
  pub min_churn : S.min_per_epoch_churn_limit_electra ≤ 2 ^ 44
  pub max_churn : S.max_per_epoch_activation_exit_churn_limit ≤ 2 ^ 44
  pub quotient : S.churn_limit_quotient ≤ 2 ^ 16
  pub period : S.shard_committee_period ≤ 2 ^ 16
  pub delay : S.min_validator_withdrawability_delay ≤ 2 ^ 16
  pub lookahead : S.max_seed_lookahead ≤ 2 ^ 16
  pub hysteresis_quotient : S.hysteresis_quotient ≤ 2 ^ 16
  pub downward : S.hysteresis_downward_multiplier ≤ 2 ^ 16
  pub upward : S.hysteresis_upward_multiplier ≤ 2 ^ 16
  pub partials : S.max_pending_partials_per_withdrawals_sweep ≤ 2 ^ 16
  pub payload : S.max_withdrawals_per_payload ≤ 2 ^ 16
  pub sweep : S.max_validators_per_withdrawals_sweep ≤ 2 ^ 16
  pub increment_some : 0 < S.effective_balance_increment
  pub min_churn_some : 0 < S.min_per_epoch_churn_limit_electra
  pub max_churn_some : 0 < S.max_per_epoch_activation_exit_churn_limit
  pub quotient_some : 0 < S.churn_limit_quotient
  pub hysteresis_quotient_some : 0 < S.hysteresis_quotient
  pub payload_some : 0 < S.max_withdrawals_per_payload
  pub sweep_some : 0 < S.max_validators_per_withdrawals_sweep
  pub increment_churn : S.effective_balance_increment ≤ S.min_per_epoch_churn_limit_electra
  pub min_max : S.min_activation_balance ≤ S.max_effective_balance_electra
  pub partials_payload : S.max_pending_partials_per_withdrawals_sweep < S.max_withdrawals_per_payload
  pub payload_sixteen : S.max_withdrawals_per_payload ≤ 16
  pub registry_limit : Limit S.validator_registry_limit
  pub deposits_limit : Limit S.pending_balance_deposits_limit
  pub partials_limit : Limit S.pending_partial_withdrawals_limit
  pub consolidations_limit : Limit S.pending_consolidations_limit

pub settings_sound : (S : Settings) → sound_settings S ≡ true → SoundSettings S
unfolding sound_settings
settings_sound S e = record {
  min_activation_balance = leb-true _ _ (nth _ e 0);
  max_effective_balance = leb-true _ _ (nth _ e 1);
  increment = leb-true _ _ (nth _ e 2);
  min_churn = leb-true _ _ (nth _ e 3);
  max_churn = leb-true _ _ (nth _ e 4);
  quotient = leb-true _ _ (nth _ e 5);
  period = leb-true _ _ (nth _ e 6);
  delay = leb-true _ _ (nth _ e 7);
  lookahead = leb-true _ _ (nth _ e 8);
  hysteresis_quotient = leb-true _ _ (nth _ e 9);
  downward = leb-true _ _ (nth _ e 10);
  upward = leb-true _ _ (nth _ e 11);
  partials = leb-true _ _ (nth _ e 12);
  payload = leb-true _ _ (nth _ e 13);
  sweep = leb-true _ _ (nth _ e 14);
  increment_some = ltb-true _ _ (nth _ e 15);
  min_churn_some = ltb-true _ _ (nth _ e 16);
  max_churn_some = ltb-true _ _ (nth _ e 17);
  quotient_some = ltb-true _ _ (nth _ e 18);
  hysteresis_quotient_some = ltb-true _ _ (nth _ e 19);
  payload_some = ltb-true _ _ (nth _ e 20);
  sweep_some = ltb-true _ _ (nth _ e 21);
  increment_churn = leb-true _ _ (nth _ e 22);
  min_max = leb-true _ _ (nth _ e 23);
  partials_payload = ltb-true _ _ (nth _ e 24);
  payload_sixteen = leb-true _ _ (nth _ e 25);
  registry_limit = limit _ (nth _ e 26);
  deposits_limit = limit _ (nth _ e 27);
  partials_limit = limit _ (nth _ e 28);
  consolidations_limit = limit _ (nth _ e 29);
}

pub settings_sound_so : (S : Settings) → SoundSettings S → sound_settings S ≡ true
unfolding sound_settings
settings_sound_so S σ =
    all_more _ _ (le-leb _ _ σ.min_activation_balance)
    (all_more _ _ (le-leb _ _ σ.max_effective_balance)
    (all_more _ _ (le-leb _ _ σ.increment)
    (all_more _ _ (le-leb _ _ σ.min_churn)
    (all_more _ _ (le-leb _ _ σ.max_churn)
    (all_more _ _ (le-leb _ _ σ.quotient)
    (all_more _ _ (le-leb _ _ σ.period)
    (all_more _ _ (le-leb _ _ σ.delay)
    (all_more _ _ (le-leb _ _ σ.lookahead)
    (all_more _ _ (le-leb _ _ σ.hysteresis_quotient)
    (all_more _ _ (le-leb _ _ σ.downward)
    (all_more _ _ (le-leb _ _ σ.upward)
    (all_more _ _ (le-leb _ _ σ.partials)
    (all_more _ _ (le-leb _ _ σ.payload)
    (all_more _ _ (le-leb _ _ σ.sweep)
    (all_more _ _ (lt-ltb _ _ σ.increment_some)
    (all_more _ _ (lt-ltb _ _ σ.min_churn_some)
    (all_more _ _ (lt-ltb _ _ σ.max_churn_some)
    (all_more _ _ (lt-ltb _ _ σ.quotient_some)
    (all_more _ _ (lt-ltb _ _ σ.hysteresis_quotient_some)
    (all_more _ _ (lt-ltb _ _ σ.payload_some)
    (all_more _ _ (lt-ltb _ _ σ.sweep_some)
    (all_more _ _ (le-leb _ _ σ.increment_churn)
    (all_more _ _ (le-leb _ _ σ.min_max)
    (all_more _ _ (lt-ltb _ _ σ.partials_payload)
    (all_more _ _ (le-leb _ _ σ.payload_sixteen)
    (all_more _ _ (limit_so _ σ.registry_limit)
    (all_more _ _ (limit_so _ σ.deposits_limit)
    (all_more _ _ (limit_so _ σ.partials_limit)
    (all_more _ _ (limit_so _ σ.consolidations_limit) all_none)))))))))))))))))))))))))))))

-- ---- books

pub record SoundBooks (S : Settings) (b : Books) : Type 0 where
  pub some : 0 < count b
  pub registry_fits : count b ≤ S.validator_registry_limit
  pub deposits_fit : length b.pending_balance_deposits ≤ S.pending_balance_deposits_limit
  pub partials_fit : length b.pending_partial_withdrawals ≤ S.pending_partial_withdrawals_limit
  pub consolidations_fit : length b.pending_consolidations ≤ S.pending_consolidations_limit
  pub cursor_in : b.next_withdrawal_validator_index < count b
  pub deposits_in : every (deposit_in (count b)) b.pending_balance_deposits ≡ true
  pub partials_in : every (partial_in (count b)) b.pending_partial_withdrawals ≡ true
  pub consolidations_in : every (consolidation_in (count b)) b.pending_consolidations ≡ true
  pub effective : every (effective_within S) b.validators ≡ true
  pub flags : every is_flag b.validators ≡ true
  pub epoch_small : b.epoch ≤ BOUND
  pub index_small : b.next_withdrawal_index ≤ BOUND
  pub carry_small : b.deposit_balance_to_consume ≤ BOUND
  pub exit_left_small : b.exit_balance_to_consume ≤ BOUND
  pub exit_epoch_small : b.earliest_exit_epoch ≤ BOUND
  pub consolidation_left_small : b.consolidation_balance_to_consume ≤ BOUND
  pub consolidation_epoch_small : b.earliest_consolidation_epoch ≤ BOUND
  pub epochs : every epochs_within b.validators ≡ true
  pub partial_epochs : every partial_epoch_within b.pending_partial_withdrawals ≡ true
  pub held_small : held b ≤ BOUND
  pub partials_small : partial_amounts b ≤ BOUND

pub books_sound : (S : Settings) (b : Books) → sound_books S b ≡ true → SoundBooks S b
unfolding sound_books
books_sound S b e = record {
  some = ltb-true _ _ (nth _ e 0);
  registry_fits = leb-true _ _ (nth _ e 1);
  deposits_fit = leb-true _ _ (nth _ e 2);
  partials_fit = leb-true _ _ (nth _ e 3);
  consolidations_fit = leb-true _ _ (nth _ e 4);
  cursor_in = ltb-true _ _ (nth _ e 5);
  deposits_in = nth _ e 6;
  partials_in = nth _ e 7;
  consolidations_in = nth _ e 8;
  effective = nth _ e 9;
  flags = nth _ e 10;
  epoch_small = leb-true _ _ (nth _ e 11);
  index_small = leb-true _ _ (nth _ e 12);
  carry_small = leb-true _ _ (nth _ e 13);
  exit_left_small = leb-true _ _ (nth _ e 14);
  exit_epoch_small = leb-true _ _ (nth _ e 15);
  consolidation_left_small = leb-true _ _ (nth _ e 16);
  consolidation_epoch_small = leb-true _ _ (nth _ e 17);
  epochs = nth _ e 18;
  partial_epochs = nth _ e 19;
  held_small = leb-true _ _ (nth _ e 20);
  partials_small = leb-true _ _ (nth _ e 21);
}

pub books_sound_so : (S : Settings) (b : Books) → SoundBooks S b → sound_books S b ≡ true
unfolding sound_books
books_sound_so S b k =
    all_more _ _ (lt-ltb _ _ k.some)
    (all_more _ _ (le-leb _ _ k.registry_fits)
    (all_more _ _ (le-leb _ _ k.deposits_fit)
    (all_more _ _ (le-leb _ _ k.partials_fit)
    (all_more _ _ (le-leb _ _ k.consolidations_fit)
    (all_more _ _ (lt-ltb _ _ k.cursor_in)
    (all_more _ _ k.deposits_in
    (all_more _ _ k.partials_in
    (all_more _ _ k.consolidations_in
    (all_more _ _ k.effective
    (all_more _ _ k.flags
    (all_more _ _ (le-leb _ _ k.epoch_small)
    (all_more _ _ (le-leb _ _ k.index_small)
    (all_more _ _ (le-leb _ _ k.carry_small)
    (all_more _ _ (le-leb _ _ k.exit_left_small)
    (all_more _ _ (le-leb _ _ k.exit_epoch_small)
    (all_more _ _ (le-leb _ _ k.consolidation_left_small)
    (all_more _ _ (le-leb _ _ k.consolidation_epoch_small)
    (all_more _ _ k.epochs
    (all_more _ _ k.partial_epochs
    (all_more _ _ (le-leb _ _ k.held_small)
    (all_more _ _ (le-leb _ _ k.partials_small) all_none)))))))))))))))))))))

-- ---- the size of a result

pub record Fits (S : Settings) (b : Books) : Type 0 where
  pub registry : count b ≤ S.validator_registry_limit
  pub deposits : length b.pending_balance_deposits ≤ S.pending_balance_deposits_limit

pub fits : (S : Settings) (b : Books) → within_limits S b ≡ true → Fits S b
unfolding within_limits
fits S b e = record { registry = leb-true _ _ (nth _ e 0); deposits = leb-true _ _ (nth _ e 1) }

pub record Sums (b : Books) : Type 0 where
  pub held_small : held b ≤ BOUND
  pub partials_small : partial_amounts b ≤ BOUND

pub sums : (b : Books) → sums_within b ≡ true → Sums b
unfolding sums_within
sums b e = record { held_small = leb-true _ _ (nth _ e 0); partials_small = leb-true _ _ (nth _ e 1) }

pub record Epochs (b : Books) : Type 0 where
  pub epoch_small : b.epoch ≤ BOUND
  pub index_small : b.next_withdrawal_index ≤ BOUND
  pub exit_epoch_small : b.earliest_exit_epoch ≤ BOUND
  pub consolidation_epoch_small : b.earliest_consolidation_epoch ≤ BOUND
  pub epochs : every epochs_within b.validators ≡ true
  pub partial_epochs : every partial_epoch_within b.pending_partial_withdrawals ≡ true

pub epochs : (b : Books) → all_epochs_within b ≡ true → Epochs b
unfolding all_epochs_within
epochs b e = record {
  epoch_small = leb-true _ _ (nth _ e 0);
  index_small = leb-true _ _ (nth _ e 1);
  exit_epoch_small = leb-true _ _ (nth _ e 2);
  consolidation_epoch_small = leb-true _ _ (nth _ e 3);
  epochs = nth _ e 4;
  partial_epochs = nth _ e 5;
}

pub epochs_so : (b : Books) → Epochs b → all_epochs_within b ≡ true
unfolding all_epochs_within
epochs_so b k =
    all_more _ _ (le-leb _ _ k.epoch_small)
    (all_more _ _ (le-leb _ _ k.index_small)
    (all_more _ _ (le-leb _ _ k.exit_epoch_small)
    (all_more _ _ (le-leb _ _ k.consolidation_epoch_small)
    (all_more _ _ k.epochs
    (all_more _ _ k.partial_epochs all_none)))))
