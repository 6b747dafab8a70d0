-- The switch to compounding as one change of the validators and one of the queue.
use Rattle.std.specs.Prelude.{◌≡◌, Bool, true, false, List, [], ◌∷◌, ◌++◌, ltb}
use Rattle.std.proofs.Math.Path.{refl, ap}
use Rattle.std.proofs.Common.{sym, ap₂, ◌∙◌, append-nil, arith}
use Prim.Native.Nat.{ℕ, ◌-◌, ◌≤◌, ◌<◌, min}
use borrow.Author.Tests.{ltb-true, ltb-false, lt-ltb, le-ltb}
use Rattle.lists.specs.Base.{when◌then◌else◌, adjust}
use Rattle.lists.specs.Laws.{by_test, if_true, if_false, and_false, join}
use Rattle.lists.specs.Laws.{length_adjust, read_adjust, adjust_adjust, adjust_same}
use Rattle.rules.specs.Types.{Settings, Validator, PendingBalanceDeposit, PendingConsolidation, Books}
use Rattle.rules.specs.Update.{with_balance, with_validators, with_pending_balance_deposits}
use Rattle.rules.specs.Helpers.{at, count, no_validator, has_eth1_withdrawal_credential, with_compounding_prefix}
use Rattle.rules.specs.Helpers.{queue_excess_active_balance, switch_to_compounding_validator}
use Rattle.rules.specs.EpochProcessing.{move_active_balance, consolidate}
use Rattle.rules.specs.Counting.{excess_entry}

-- a validator after its switch
abbrev pub switched : Settings → Validator → Validator
switched S v = with_balance (min v.balance S.min_activation_balance) (with_compounding_prefix v)

abbrev pub switched_books : Settings → ℕ → Books → Books
switched_books S i b =
    with_pending_balance_deposits (b.pending_balance_deposits ++ excess_entry S i b)
    (with_validators (adjust i (switched S) b.validators) b)

-- the books with other validators and another queue
abbrev moved : Books → List PendingBalanceDeposit → List Validator → Books
moved b ds vs = with_pending_balance_deposits ds (with_validators vs b)

module _ (S : Settings) (i : ℕ) (b : Books) where
  abbrev least : ℕ
  least = S.min_activation_balance

  abbrev v : Validator
  v = at b.validators i

  -- the books with the validator's new prefix
  abbrev prefixed : Books
  prefixed = with_validators (adjust i with_compounding_prefix b.validators) b

  abbrev entry : List PendingBalanceDeposit
  entry = record { index = i; amount = v.balance - least } ∷ []

  entry_some : has_eth1_withdrawal_credential v ≡ true → ltb least v.balance ≡ true → excess_entry S i b ≡ entry
  unfolding excess_entry
  entry_some h e =
      let k : least < v.balance = ltb-true least v.balance e in
      if_true _ _ _ (join h (lt-ltb 0 (v.balance - least) (omega arith)))

  entry_none : ltb least v.balance ≡ false → excess_entry S i b ≡ []
  unfolding excess_entry
  entry_none e =
      let k : v.balance ≤ least = ltb-false least v.balance e in
      if_false _ _ _ (and_false (has_eth1_withdrawal_credential v) _ (le-ltb 0 (v.balance - least) (omega arith)))

  -- queue_excess_active_balance after the new prefix, where the balance read is n
  abbrev queued : ℕ → Books
  queued n =
      let vs = adjust i with_compounding_prefix b.validators in
      let excess : PendingBalanceDeposit = record { index = i; amount = n - least } in
      when ltb least n
      then moved b (b.pending_balance_deposits ++ (excess ∷ [])) (adjust i (with_balance least) vs)
      else with_validators vs b

  queued_form : (u : Bool) → ltb least v.balance ≡ u → has_eth1_withdrawal_credential v ≡ true
      → queued v.balance ≡ switched_books S i b
  queued_form true e h =
      let k : least < v.balance = ltb-true least v.balance e in
      let n : least ≡ min v.balance least = omega arith in
      if_true _ _ _ e
      ∙ ap₂ (moved b) (ap (λ (l : List PendingBalanceDeposit). b.pending_balance_deposits ++ l) (sym (entry_some h e)))
      (adjust_adjust i (with_balance least) with_compounding_prefix b.validators
      ∙ adjust_same i (λ w. with_balance least (with_compounding_prefix w)) (switched S) b.validators no_validator
      (ap (λ x. with_balance x (with_compounding_prefix v)) n))
  queued_form false e h =
      let k : v.balance ≤ least = ltb-false least v.balance e in
      let n : v.balance ≡ min v.balance least = omega arith in
      if_false _ _ _ e
      ∙ ap₂ (moved b)
      (sym (append-nil b.pending_balance_deposits)
      ∙ ap (λ (l : List PendingBalanceDeposit). b.pending_balance_deposits ++ l) (sym (entry_none e)))
      (adjust_same i with_compounding_prefix (switched S) b.validators no_validator
      (ap (λ x. with_balance x (with_compounding_prefix v)) n))

  excess_form : has_eth1_withdrawal_credential v ≡ true
      → queue_excess_active_balance S i prefixed ≡ switched_books S i b
  unfolding queue_excess_active_balance
  excess_form h =
      let balance : Validator → ℕ = λ x. x.balance in
      ap queued (read_adjust balance i with_compounding_prefix b.validators no_validator (λ x. refl))
      ∙ queued_form (ltb least v.balance) refl h

pub switch_form : (S : Settings) (i : ℕ) (b : Books) → switch_to_compounding_validator S i b
    ≡ (when has_eth1_withdrawal_credential (at b.validators i) then switched_books S i b else b)
unfolding switch_to_compounding_validator when◌then◌else◌
switch_form S i b = go (has_eth1_withdrawal_credential (at b.validators i)) refl
  where
    go : (t : Bool) → has_eth1_withdrawal_credential (at b.validators i) ≡ t
        → (when t then queue_excess_active_balance S i (prefixed S i b) else b)
        ≡ (when t then switched_books S i b else b)
    go true h = excess_form S i b h
    go false h = refl

-- ---- the registry keeps its length

pub switch_count : (S : Settings) (i : ℕ) (b : Books) → count (switch_to_compounding_validator S i b) ≡ count b
switch_count S i b =
    ap count (switch_form S i b)
    ∙ by_test (λ (e : Books). count e ≡ count b) (has_eth1_withdrawal_credential (at b.validators i))
    (λ e. length_adjust i (switched S) b.validators) (λ e. refl)

pub consolidate_count : (S : Settings) (c : PendingConsolidation) (b : Books) → count (consolidate S c b) ≡ count b
unfolding consolidate move_active_balance
consolidate_count S c b = simp length_adjust (switch_count S c.target_index b)
