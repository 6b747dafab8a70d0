-- The reader's promise fixes its answer, and every byte and word of the buffers.
use Rattle.std.specs.Prelude.{◌≡◌, List, ℕ, Result, Ok, Err}
use Rattle.std.proofs.Common.{sym, ap, ◌∙◌}
use Rattle.std.proofs.Math.Option.{Option, some, none}
use Rattle.rules.specs.Types as rule
use Rattle.primitives.specs.declared.Settings.{Settings}
use Rattle.primitives.specs.declared.answers.Refusal.{Refusal}
use Rattle.primitives.specs.Answers.{refusal_not_0, refusal_fixed}
use Rattle.primitives.specs.Settings.{settings_of}
use Rattle.records.specs.Books.{Tables}
use Rattle.records.specs.Fixed.{SameSizes, books_fixed}
use Rattle.books_reader.specs.declared.Opened.{Opened}
use Rattle.books_reader.specs.Read.{BooksRead}

-- the declared settings that settings were read from
settings_in : rule.Settings → Settings
settings_in S = record {
  min_activation_balance = record { 0 = S.min_activation_balance };
  max_effective_balance_electra = record { 0 = S.max_effective_balance_electra };
  effective_balance_increment = record { 0 = S.effective_balance_increment };
  min_per_epoch_churn_limit_electra = record { 0 = S.min_per_epoch_churn_limit_electra };
  max_per_epoch_activation_exit_churn_limit = record { 0 = S.max_per_epoch_activation_exit_churn_limit };
  churn_limit_quotient = S.churn_limit_quotient;
  shard_committee_period = S.shard_committee_period;
  min_validator_withdrawability_delay = S.min_validator_withdrawability_delay;
  max_seed_lookahead = S.max_seed_lookahead;
  hysteresis_quotient = S.hysteresis_quotient;
  hysteresis_downward_multiplier = S.hysteresis_downward_multiplier;
  hysteresis_upward_multiplier = S.hysteresis_upward_multiplier;
  max_pending_partials_per_withdrawals_sweep = S.max_pending_partials_per_withdrawals_sweep;
  max_withdrawals_per_payload = S.max_withdrawals_per_payload;
  max_validators_per_withdrawals_sweep = S.max_validators_per_withdrawals_sweep;
  validator_registry_limit = S.validator_registry_limit;
  pending_balance_deposits_limit = S.pending_balance_deposits_limit;
  pending_partial_withdrawals_limit = S.pending_partial_withdrawals_limit;
  pending_consolidations_limit = S.pending_consolidations_limit;
}

settings_fixed : (a b : Settings) → settings_of a ≡ settings_of b → a ≡ b
unfolding settings_in
settings_fixed a b e = ap settings_in e

-- what is read, or p
read_or : {A : Type 0} → A → Option A → A
read_or p none = p
read_or p (some q) = q

some_fixed : {A : Type 0} (p q : A) → some p ≡ some q → p ≡ q
unfolding read_or
some_fixed p q e = ap (read_or p) e

module _ {bs : List ℕ} {t u w : Tables} (z : SameSizes u w) where
  -- no two outcomes of one reading
  pub read_fixed : (r q : Result Opened Refusal) → BooksRead bs t u r → BooksRead bs t w q → (r ≡ q) × (u ≡ w)
  read_fixed (Ok o) (Ok p) a b =
      let read = some_fixed _ _ (sym a.books ∙ b.books) in
      let S = settings_fixed o.settings p.settings (ap (λ x. x.0) read) in
      let same = books_fixed z a.beyond b.beyond (ap (λ x. x.1) read) in
      ((λ j. Ok (record { settings = S j; scalars = same.0 j })), same.1)
  read_fixed (Ok o) (Err f) a b = absurd (refusal_not_0 f (b.number ∙ sym a.number))
  read_fixed (Err e) (Ok p) a b = absurd (refusal_not_0 e (a.number ∙ sym b.number))
  read_fixed (Err e) (Err f) a b =
      (ap Err (refusal_fixed e f (a.number ∙ sym b.number)), a.refused ∙ sym b.refused)
