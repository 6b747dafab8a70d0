-- The balances of the validators that can still switch to compounding, and what the steps do to them.
--
-- A switch queues an excess only for a validator with prefix 01, which has prefix 02 from then on. So what a
-- consolidation moves to its target does not matter to the count of entries, and the target's balance may count as 0;
-- of a source with prefix 01 the minimum is taken.
use Rattle.std.specs.Prelude.{◌≡◌, refl, ◌≢◌, Bool, true, false, List, ℕ, ◌+◌, ◌-◌, ◌≤◌, ◌<◌, get_or, set, eqb}
use Rattle.std.proofs.Common.{sym, ap, ◌∙◌, arith, get_or-set_same, get_or-set_other, eqb-true, ne_eqb}
use Rattle.std.proofs.Math.Decide.{ℕ_discrete}
use Rattle.std.proofs.Math.ListN.{length, length-set}
use Rattle.lists.specs.Base.{when◌then◌else◌, adjust}
use Rattle.lists.specs.Laws.{by_test, if_true, if_false, getD_adjust}
use Rattle.rules.specs.Types.{Settings, Validator, PendingConsolidation, Books}
use Rattle.rules.specs.Helpers.{at, no_validator, prefix, increased, decreased, get_active_balance}
use Rattle.rules.specs.Helpers.{has_eth1_withdrawal_credential, has_compounding_withdrawal_credential}
use Rattle.rules.specs.Helpers.{switch_to_compounding_validator}
use Rattle.rules.specs.EpochProcessing.{move_active_balance, consolidate}
use Rattle.rules.specs.Counting.{excess_entry}
use Rattle.rule_laws.specs.Switch.{switch_count}
use Rattle.compounding.specs.Laws.{excess_entry_count, entries_low, entries_none, entries_some}
use Rattle.queue_room.specs.Laws.{adjust_other, adjust_keeps, switch_done, switch_other}

-- ---- definitions

-- an amount, where the prefix is that of a validator that can switch
abbrev pub switchable_amount : (prefix amount : ℕ) → ℕ
switchable_amount p amount = when eqb p 1 then amount else 0

unfoldable pub switchable_balance : Validator → ℕ
switchable_balance v = switchable_amount (prefix v.withdrawal_credentials) v.balance

-- w holds these balances of the first n validators
pub record Switchable (n : ℕ) (vs : List Validator) (w : List ℕ) : Type 0 where
  pub each : (j : ℕ) → j < n → get_or w j 0 ≡ switchable_balance (at vs j)

-- after the switch of validator i
abbrev pub switched_balances : ℕ → List ℕ → List ℕ
switched_balances i w = set w i 0

-- after a consolidation
abbrev pub consolidated_balances : (minimum source_index target_index : ℕ) → List ℕ → List ℕ
consolidated_balances minimum s t w =
    set (switched_balances t w) s (get_or (switched_balances t w) s 0 - minimum)

-- after an amount is credited to validator i, which has this prefix
abbrev pub credited_balances : (i prefix amount : ℕ) → List ℕ → List ℕ
credited_balances i p amount w = set w i (get_or w i 0 + switchable_amount p amount)

-- ---- one validator

cannot_switch : (v : Validator) → has_eth1_withdrawal_credential v ≡ false → switchable_balance v ≡ 0
unfolding switchable_balance
cannot_switch v e = if_false _ _ _ e

can_switch : (v : Validator) → has_eth1_withdrawal_credential v ≡ true → switchable_balance v ≡ v.balance
unfolding switchable_balance
can_switch v e = if_true _ _ _ e

pub amount_at_most : (prefix amount : ℕ) → switchable_amount prefix amount ≤ amount
amount_at_most p amount =
    by_test (λ (x : ℕ). x ≤ amount) (eqb p 1) (λ e. omega arith) (λ e. omega arith)

pub switchable_at_most : (v : Validator) → switchable_balance v ≤ v.balance
unfolding switchable_balance
switchable_at_most v = amount_at_most (prefix v.withdrawal_credentials) v.balance

switchable_increased : (amount : ℕ) (v : Validator)
    → switchable_balance v + switchable_amount (prefix v.withdrawal_credentials) amount
    ≡ switchable_balance (increased amount v)
unfolding when◌then◌else◌
switchable_increased amount v = go (has_eth1_withdrawal_credential v) refl
  where
    go : (t : Bool) → has_eth1_withdrawal_credential v ≡ t
        → switchable_balance v + switchable_amount (prefix v.withdrawal_credentials) amount
        ≡ switchable_balance (increased amount v)
    go true e = rw (can_switch v e, can_switch (increased amount v) e, e)
    go false e = rw (cannot_switch v e, cannot_switch (increased amount v) e, e) (omega arith)

-- the active balance of a validator with prefix 01 is at most the minimum
switchable_decreased : (S : Settings) (v : Validator)
    → switchable_balance v - S.min_activation_balance ≡ switchable_balance (decreased (get_active_balance S v) v)
unfolding switchable_balance when◌then◌else◌
switchable_decreased S v = go (has_eth1_withdrawal_credential v) refl
  where
    go : (t : Bool) → has_eth1_withdrawal_credential v ≡ t
        → switchable_balance v - S.min_activation_balance ≡ switchable_balance (decreased (get_active_balance S v) v)
    go true e =
        let p = eqb-true (prefix v.withdrawal_credentials) 1 e in
        let q : has_compounding_withdrawal_credential v ≡ false =
        ne_eqb (prefix v.withdrawal_credentials) 2 (λ r. omega (arith, p, r)) in
        rw (e, q) (omega arith)
    go false e = rw e (omega arith)

-- the length of the entry that a switch queues
pub excess_entry_length : (S : Settings) (i : ℕ) (b : Books)
    → length (excess_entry S i b)
    ≡ excess_entry_count S.min_activation_balance (switchable_balance (at b.validators i))
excess_entry_length S i b = go (has_eth1_withdrawal_credential (at b.validators i)) refl
  where
    go : (t : Bool) → has_eth1_withdrawal_credential (at b.validators i) ≡ t
        → length (excess_entry S i b)
        ≡ excess_entry_count S.min_activation_balance (switchable_balance (at b.validators i))
    go true e = entries_some S i b e ∙ ap (excess_entry_count S.min_activation_balance) (sym (can_switch _ e))
    go false e =
        entries_none S i b e
        ∙ sym (entries_low S.min_activation_balance 0 (omega arith))
        ∙ ap (excess_entry_count S.min_activation_balance) (sym (cannot_switch _ e))

-- ---- all validators

module _ {n : ℕ} {w : List ℕ} {vs : List Validator} (k : Switchable n vs w) where
  -- validator i alone differs
  switchable_change : (i x : ℕ) (us : List Validator) → i < length w → x ≡ switchable_balance (at us i)
      → ((j : ℕ) → j ≢ i → at us j ≡ at vs j) → Switchable n us (set w i x)
  switchable_change i x us h e other = record { each = λ j p. go j p (ℕ_discrete j i) }
    where
      go : (j : ℕ) → j < n → Dec (j ≡ i) → get_or (set w i x) j 0 ≡ switchable_balance (at us j)
      go j p (yes q) = rw q (get_or-set_same w i x 0 h ∙ e)
      go j p (no q) = get_or-set_other w i j x 0 q ∙ k.each j p ∙ ap switchable_balance (sym (other j q))

  switchable_decrease : (S : Settings) (i : ℕ) → i < length w → i < n → i < length vs
      → Switchable n (adjust i (decreased (get_active_balance S (at vs i))) vs)
      (set w i (get_or w i 0 - S.min_activation_balance))
  switchable_decrease S i h m l =
      let f = decreased (get_active_balance S (at vs i)) in
      switchable_change i (get_or w i 0 - S.min_activation_balance) (adjust i f vs) h
      (ap (λ x. x - S.min_activation_balance) (k.each i m)
      ∙ switchable_decreased S (at vs i)
      ∙ ap switchable_balance (sym (getD_adjust i f vs no_validator l)))
      (λ j q. adjust_other i j f vs no_validator q)

  -- a validator that cannot switch may gain
  switchable_increase : (i amount : ℕ) → has_eth1_withdrawal_credential (at vs i) ≡ false
      → Switchable n (adjust i (increased amount) vs) w
  switchable_increase i amount h = record { each = λ j p. k.each j p ∙ go j (ℕ_discrete j i) }
    where
      kept : has_eth1_withdrawal_credential (at (adjust i (increased amount) vs) i) ≡ false
      kept = adjust_keeps has_eth1_withdrawal_credential (increased amount) (λ v. refl) i i vs no_validator ∙ h

      go : (j : ℕ) → Dec (j ≡ i)
          → switchable_balance (at vs j) ≡ switchable_balance (at (adjust i (increased amount) vs) j)
      go j (yes q) = rw q (cannot_switch _ h ∙ sym (cannot_switch _ kept))
      go j (no q) = ap switchable_balance (sym (adjust_other i j (increased amount) vs no_validator q))

  pub switchable_credit : (i amount : ℕ) → i < length w → i < n → i < length vs
      → Switchable n (adjust i (increased amount) vs)
      (credited_balances i (prefix (at vs i).withdrawal_credentials) amount w)
  switchable_credit i amount h m l =
      let more = switchable_amount (prefix (at vs i).withdrawal_credentials) amount in
      switchable_change i (get_or w i 0 + more) (adjust i (increased amount) vs) h
      (ap (λ x. x + more) (k.each i m)
      ∙ switchable_increased amount (at vs i)
      ∙ ap switchable_balance (sym (getD_adjust i (increased amount) vs no_validator l)))
      (λ j q. adjust_other i j (increased amount) vs no_validator q)

-- ---- one consolidation

module _ (S : Settings) {n : ℕ} {w : List ℕ} where
  switchable_switch : (i : ℕ) (b : Books) → i < length w → Switchable n b.validators w
      → Switchable n (switch_to_compounding_validator S i b).validators (switched_balances i w)
  switchable_switch i b h k =
      switchable_change k i 0 (switch_to_compounding_validator S i b).validators h
      (sym (cannot_switch _ (switch_done S i b))) (switch_other S i b)

  pub switchable_consolidate : (c : PendingConsolidation) (b : Books) → n ≤ length w → length b.validators ≡ n
      → c.source_index < n → c.target_index < n → Switchable n b.validators w
      → Switchable n (consolidate S c b).validators
      (consolidated_balances S.min_activation_balance c.source_index c.target_index w)
  unfolding consolidate move_active_balance
  switchable_consolidate c b h size s t k =
      let e = switch_to_compounding_validator S c.target_index b in
      let f = decreased (get_active_balance S (at e.validators c.source_index)) in
      let long : c.source_index < length (switched_balances c.target_index w) =
      omega (arith, length-set w c.target_index 0) in
      let there : c.source_index < length e.validators = omega (arith, switch_count S c.target_index b) in
      let gone = adjust_keeps has_eth1_withdrawal_credential f (λ v. refl)
      c.source_index c.target_index e.validators no_validator ∙ switch_done S c.target_index b in
      switchable_increase
      (switchable_decrease (switchable_switch c.target_index b (omega arith) k) S c.source_index long s there)
      c.target_index _ gone
