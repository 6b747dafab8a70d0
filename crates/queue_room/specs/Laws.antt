-- What the steps keep of a validator: laws that the count of excess entries rests on.
use Rattle.std.specs.Prelude.{◌≡◌, ◌≢◌, false, ℕ, zero, suc, ◌+◌, ◌-◌, min, get_or, set, ltb, eqb}
use Rattle.std.proofs.Math.Path.{refl}
use Rattle.std.proofs.Common.{ap, ◌∙◌}
use mathlib.Core.List.{List, [], ◌∷◌}
use Rattle.lists.specs.Base.{adjust}
use Rattle.lists.specs.Laws.{by_test}
use Rattle.rules.specs.Types.{Settings, Validator, PendingBalanceDeposit, PendingConsolidation, Books}
use Rattle.rules.specs.Update.{with_balance, with_withdrawal_credentials}
use Rattle.rules.specs.Helpers.{at, no_validator, prefix, increased, decreased, get_active_balance}
use Rattle.rules.specs.Helpers.{has_eth1_withdrawal_credential, with_compounding_prefix}
use Rattle.rules.specs.Helpers.{switch_to_compounding_validator}
use Rattle.rules.specs.EpochProcessing.{Deposited, process_deposits, move_active_balance, consolidate}
use Rattle.rule_laws.specs.Switch.{switched, switch_form}

-- ---- one element changed

module _ {A : Type 0} where
  pub adjust_other : (i j : ℕ) (f : A → A) (xs : List A) (d : A) → j ≢ i → get_or (adjust i f xs) j d ≡ get_or xs j d
  adjust_other i j f [] d h = refl
  adjust_other zero zero f (x ∷ xs) d h = absurd (h refl)
  adjust_other zero (suc j) f (x ∷ xs) d h = refl
  adjust_other (suc i) zero f (x ∷ xs) d h = refl
  adjust_other (suc i) (suc j) f (x ∷ xs) d h = adjust_other i j f xs d (λ e. h (ap suc e))

  -- what the change keeps of an element is the same at every place
  pub adjust_keeps : {B : Type 0} (p : A → B) (f : A → A) → ((x : A) → p (f x) ≡ p x)
      → (i j : ℕ) (xs : List A) (d : A) → p (get_or (adjust i f xs) j d) ≡ p (get_or xs j d)
  adjust_keeps p f h i j [] d = refl
  adjust_keeps p f h zero zero (x ∷ xs) d = h x
  adjust_keeps p f h zero (suc j) (x ∷ xs) d = refl
  adjust_keeps p f h (suc i) zero (x ∷ xs) d = refl
  adjust_keeps p f h (suc i) (suc j) (x ∷ xs) d = adjust_keeps p f h i j xs d

-- ---- the switch

switched_prefix : (c : List ℕ) → eqb (prefix (set c 0 2)) 1 ≡ false
switched_prefix [] = refl
switched_prefix (x ∷ xs) = refl

switched_none : (S : Settings) (i : ℕ) (vs : List Validator)
    → has_eth1_withdrawal_credential (at (adjust i (switched S) vs) i) ≡ false
switched_none S i [] = refl
switched_none S zero (v ∷ vs) = switched_prefix v.withdrawal_credentials
switched_none S (suc i) (v ∷ vs) = switched_none S i vs

module _ (S : Settings) (i : ℕ) (b : Books) where
  -- no validator can switch a second time
  pub switch_done : has_eth1_withdrawal_credential (at (switch_to_compounding_validator S i b).validators i) ≡ false
  switch_done =
      ap (λ (e : Books). has_eth1_withdrawal_credential (at e.validators i)) (switch_form S i b)
      ∙ by_test (λ (e : Books). has_eth1_withdrawal_credential (at e.validators i) ≡ false)
      (has_eth1_withdrawal_credential (at b.validators i))
      (λ e. switched_none S i b.validators) (λ e. e)

  pub switch_other : (j : ℕ) → j ≢ i
      → at (switch_to_compounding_validator S i b).validators j ≡ at b.validators j
  switch_other j h =
      ap (λ (e : Books). at e.validators j) (switch_form S i b)
      ∙ by_test (λ (e : Books). at e.validators j ≡ at b.validators j)
      (has_eth1_withdrawal_credential (at b.validators i))
      (λ e. adjust_other i j (switched S) b.validators no_validator h) (λ e. refl)

  switch_epoch : (switch_to_compounding_validator S i b).epoch ≡ b.epoch
  switch_epoch =
      ap (λ (e : Books). e.epoch) (switch_form S i b)
      ∙ by_test (λ (e : Books). e.epoch ≡ b.epoch) (has_eth1_withdrawal_credential (at b.validators i))
      (λ e. refl) (λ e. refl)

-- ---- one consolidation

module _ (S : Settings) (c : PendingConsolidation) (b : Books) where
  pub consolidate_epoch : (consolidate S c b).epoch ≡ b.epoch
  unfolding consolidate move_active_balance
  consolidate_epoch = switch_epoch S c.target_index b

-- a part of a validator that depends neither on its balance nor on its credentials
module _ {B : Type 0} (p : Validator → B) (kept : (n : ℕ) (v : Validator) → p (with_balance n v) ≡ p v) where
  pub deposits_keep : (available processed_amount : ℕ) (ds : List PendingBalanceDeposit) (vs : List Validator) (j : ℕ)
      → p (at (process_deposits available processed_amount ds vs).validators j) ≡ p (at vs j)
  unfolding process_deposits
  deposits_keep available processed_amount [] vs j = refl
  deposits_keep available processed_amount (d ∷ ds) vs j =
      by_test (λ (e : Deposited). p (at e.validators j) ≡ p (at vs j)) (ltb available (processed_amount + d.amount))
      (λ e. refl)
      (λ e.
      deposits_keep available (processed_amount + d.amount) ds (adjust d.index (increased d.amount) vs) j
      ∙ adjust_keeps p (increased d.amount) (λ v. kept (v.balance + d.amount) v) d.index j vs no_validator)

  module _ (also : (c : List ℕ) (v : Validator) → p (with_withdrawal_credentials c v) ≡ p v) where
    switched_keeps : (S : Settings) (v : Validator) → p (switched S v) ≡ p v
    switched_keeps S v =
        kept (min v.balance S.min_activation_balance) (with_compounding_prefix v)
        ∙ also (set v.withdrawal_credentials 0 2) v

    switch_keeps : (S : Settings) (i j : ℕ) (b : Books)
        → p (at (switch_to_compounding_validator S i b).validators j) ≡ p (at b.validators j)
    switch_keeps S i j b =
        ap (λ (e : Books). p (at e.validators j)) (switch_form S i b)
        ∙ by_test (λ (e : Books). p (at e.validators j) ≡ p (at b.validators j))
        (has_eth1_withdrawal_credential (at b.validators i))
        (λ e. adjust_keeps p (switched S) (switched_keeps S) i j b.validators no_validator) (λ e. refl)

    pub consolidate_keeps : (S : Settings) (c : PendingConsolidation) (b : Books) (j : ℕ)
        → p (at (consolidate S c b).validators j) ≡ p (at b.validators j)
    unfolding consolidate move_active_balance
    consolidate_keeps S c b j =
        let vs = (switch_to_compounding_validator S c.target_index b).validators in
        let amount = get_active_balance S (at vs c.source_index) in
        adjust_keeps p (increased amount) (λ v. kept (v.balance + amount) v) c.target_index j
        (adjust c.source_index (decreased amount) vs) no_validator
        ∙ adjust_keeps p (decreased amount) (λ v. kept (v.balance - amount) v) c.source_index j vs no_validator
        ∙ switch_keeps S c.target_index j b
