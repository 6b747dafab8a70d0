-- The laws of the loops: one entry or validator, a full list, the end; and what the list holds after both loops.
use Rattle.std.specs.Prelude.{◌≡◌, Bool, ◌&&◌, ◌||◌, set}
use Rattle.std.proofs.Math.Path.{refl, ap}
use Rattle.std.proofs.Common.{sym, ◌∙◌, add-zero, le_of_suc-le-suc, not-suc-le-zero, length-append}
use Rattle.std.proofs.Math.Bool.{true, false}
use Rattle.std.proofs.lemmas.Bool.{false≢true}
use mathlib.Core.List.{List, [], ◌∷◌, ◌++◌, map, append_assoc, append-nil}
use Prim.Native.Nat.{ℕ, zero, suc, ◌+◌, ◌-◌, ◌%◌, ◌≤◌, ◌<◌, min}
use Rattle.std.proofs.Math.Nat.{sub-zero}
use native.Mathlib.Omega.{arith}
use Rattle.std.proofs.Math.ListN.{length}
use Rattle.std.proofs.Math.Dec.{ltb, leb, eqb}
use borrow.Author.Tests.{lt-ltb, le-ltb, ltb-true, eqb-true}
use Rattle.lists.specs.Base.{when◌then◌else◌}
use Rattle.lists.specs.Laws.{both, and_false}
use Rattle.rules.specs.Types as rule
use Rattle.rules.specs.Types.{FAR}
use Rattle.rules.specs.Helpers.{at, count, has_execution_withdrawal_credential}
use Rattle.rules.specs.Helpers.{get_validator_max_effective_balance}
use Rattle.rules.specs.Helpers.{is_fully_withdrawable_validator, is_partially_withdrawable_validator}
use Rattle.rules.specs.BlockProcessing.{is_partial_payable, sweep_amount, partial_withdrawals, sweep_withdrawals}
use Rattle.rules.specs.BlockProcessing.{expected_partial_withdrawals, get_expected_withdrawals}
use Rattle.rule_laws.specs.Withdrawals.{partial_withdrawals_length, sweep_withdrawals_length}
use Rattle.expected_withdrawals.specs.declared.ExpectedWithdrawals.{ExpectedWithdrawals}
use Rattle.expected_withdrawals.specs.Expected.{coded_withdrawal, padded, sixteen, no_withdrawals, expected_of}
use Rattle.expected_withdrawals.specs.Listing.{pushed, pushes, with_partials_counted, withdrawal_of}
use Rattle.expected_withdrawals.specs.Listing.{partial_amount, list_partial, may_withdraw, list_validator}
use Rattle.expected_withdrawals.specs.Listing.{list_partials, list_swept}

-- ---- what the sweep takes of one validator

neither : (s t : Bool) → (s || t) ≡ false → (s ≡ false) × (t ≡ false)
neither true t e = (e, absurd (false≢true (sym e)))
neither false t e = (refl, e)

module _ (S : rule.Settings) (epoch : ℕ) (v : rule.Validator) where
  pub full_amount : is_fully_withdrawable_validator epoch v ≡ true → v.balance ≡ sweep_amount S epoch v
  unfolding sweep_amount when◌then◌else◌
  full_amount f = rw f

  module _ (f : is_fully_withdrawable_validator epoch v ≡ false) where
    pub partial_taken : is_partially_withdrawable_validator S v ≡ true
        → v.balance - get_validator_max_effective_balance S v ≡ sweep_amount S epoch v
    unfolding sweep_amount when◌then◌else◌
    partial_taken p = rw f (rw p)

    pub none_taken : is_partially_withdrawable_validator S v ≡ false → 0 ≡ sweep_amount S epoch v
    unfolding sweep_amount when◌then◌else◌
    none_taken p = rw f (rw p)

  pub partial_room : is_partially_withdrawable_validator S v ≡ true
      → get_validator_max_effective_balance S v ≤ v.balance
  unfolding is_partially_withdrawable_validator
  partial_room p =
      let max = get_validator_max_effective_balance S v in
      let tests = has_execution_withdrawal_credential v && eqb v.effective_balance max in
      omega (arith, ltb-true max v.balance (both tests (ltb max v.balance) p).1)

  -- nothing is taken where the first look says so
  module _ (n : may_withdraw epoch v ≡ false) where
    later : leb v.withdrawable_epoch epoch ≡ false
    later = (neither (leb v.withdrawable_epoch epoch) (ltb v.effective_balance v.balance) n).0

    low : ltb v.effective_balance v.balance ≡ false
    low = (neither (leb v.withdrawable_epoch epoch) (ltb v.effective_balance v.balance) n).1

    not_fully : is_fully_withdrawable_validator epoch v ≡ false
    unfolding is_fully_withdrawable_validator
    not_fully = ap (λ t. t && ltb 0 v.balance) (and_false (has_execution_withdrawal_credential v) _ later)

    not_partially : is_partially_withdrawable_validator S v ≡ false
    unfolding is_partially_withdrawable_validator
    not_partially = go (eqb v.effective_balance max) refl
      where
        max : ℕ
        max = get_validator_max_effective_balance S v

        go : (t : Bool) → eqb v.effective_balance max ≡ t
            → (has_execution_withdrawal_credential v && eqb v.effective_balance max && ltb max v.balance) ≡ false
        go true e =
            and_false (has_execution_withdrawal_credential v && eqb v.effective_balance max) (ltb max v.balance)
            (ap (λ m. ltb m v.balance) (sym (eqb-true v.effective_balance max e)) ∙ low)
        go false e =
            ap (λ t. t && ltb max v.balance)
            (and_false (has_execution_withdrawal_credential v) (eqb v.effective_balance max) e)

    pub no_amount : 0 ≡ sweep_amount S epoch v
    no_amount = none_taken not_fully not_partially

-- ---- one entry, one validator

module _ (S : rule.Settings) (v : rule.Validator) where
  pub payable_room : is_partial_payable S v ≡ true → S.min_activation_balance ≤ v.balance
  unfolding is_partial_payable
  payable_room e =
      let least = S.min_activation_balance in
      let tests = eqb v.exit_epoch FAR && leb least v.effective_balance in
      let above = (both tests (ltb least v.balance) e).1 in
      omega (arith, ltb-true least v.balance above)

  module _ (first : ℕ) (p : rule.PendingPartialWithdrawal) (e : ExpectedWithdrawals) where
    pub partial_listed : {r : ExpectedWithdrawals} {amount : ℕ}
        → is_partial_payable S v ≡ true → amount ≡ partial_amount S p v
        → r ≡ pushed e (withdrawal_of first e.count p.index v amount) → r ≡ list_partial S first p v e
    unfolding list_partial when◌then◌else◌
    partial_listed t a q = rw t (q ∙ ap (λ x. pushed e (withdrawal_of first e.count p.index v x)) a)

    pub partial_passed : is_partial_payable S v ≡ false → e ≡ list_partial S first p v e
    unfolding list_partial when◌then◌else◌
    partial_passed t = rw t

  module _ (epoch first i : ℕ) (e : ExpectedWithdrawals) {amount : ℕ} (a : amount ≡ sweep_amount S epoch v) where
    pub validator_listed : {r : ExpectedWithdrawals} → 0 < amount
        → r ≡ pushed e (withdrawal_of first e.count i v amount) → r ≡ list_validator S epoch first i v e
    unfolding list_validator when◌then◌else◌
    validator_listed h q =
        let t : ltb 0 (sweep_amount S epoch v) ≡ true = lt-ltb _ _ (rw a at h) in
        rw t (q ∙ ap (λ x. pushed e (withdrawal_of first e.count i v x)) a)

    pub validator_passed : amount ≤ 0 → e ≡ list_validator S epoch first i v e
    unfolding list_validator when◌then◌else◌
    validator_passed h =
        let t : ltb 0 (sweep_amount S epoch v) ≡ false = le-ltb _ _ (rw a at h) in
        rw t

-- ---- the loops

onward : (first n : ℕ) → first + (n + 1) ≡ suc (first + n)
onward first n = omega arith

module _ (S : rule.Settings) (b : rule.Books) where
  pub partials_end : (e : ExpectedWithdrawals) → list_partials S b [] e ≡ e
  unfolding list_partials pushes
  partials_end e = refl

  pub partials_full : (ps : List rule.PendingPartialWithdrawal) (e : ExpectedWithdrawals)
      → S.max_pending_partials_per_withdrawals_sweep ≤ e.count → list_partials S b ps e ≡ e
  unfolding list_partials pushes
  partials_full [] e h = refl
  partials_full (p ∷ ps) e h =
      let z : S.max_pending_partials_per_withdrawals_sweep - e.count ≡ 0 = omega arith in
      rw z

  module _ (p : rule.PendingPartialWithdrawal) (ps : List rule.PendingPartialWithdrawal) (e : ExpectedWithdrawals)
      (h : e.count < S.max_pending_partials_per_withdrawals_sweep) where
    room : S.max_pending_partials_per_withdrawals_sweep - e.count
        ≡ suc (S.max_pending_partials_per_withdrawals_sweep - (e.count + 1))
    room = omega arith

    pub partials_stop : b.epoch < p.withdrawable_epoch → list_partials S b (p ∷ ps) e ≡ e
    unfolding list_partials pushes when◌then◌else◌
    partials_stop k = rw room (simp (lt-ltb _ _ k))

    pub partials_step : (v : rule.Validator) → p.withdrawable_epoch ≤ b.epoch → v ≡ at b.validators p.index
        → list_partials S b (p ∷ ps) e ≡ list_partials S b ps (list_partial S b.next_withdrawal_index p v e)
    unfolding list_partials pushes when◌then◌else◌ list_partial
    partials_step v k q = go (is_partial_payable S v) refl
      where
        go : (t : Bool) → is_partial_payable S v ≡ t
            → list_partials S b (p ∷ ps) e ≡ list_partials S b ps (list_partial S b.next_withdrawal_index p v e)
        go true t =
            rw room
            (simp (le-ltb _ _ k) (rw (← q) (rw t (rw (onward b.next_withdrawal_index e.count)))))
        go false t = rw room (simp (le-ltb _ _ k) (rw (← q) (rw t (rw room))))

  pub sweep_end : (i : ℕ) (e : ExpectedWithdrawals) → list_swept S b 0 i e ≡ e
  unfolding list_swept pushes
  sweep_end i e = refl

  pub sweep_full : (bound i : ℕ) (e : ExpectedWithdrawals)
      → S.max_withdrawals_per_payload ≤ e.count → list_swept S b bound i e ≡ e
  unfolding list_swept pushes
  sweep_full zero i e h = refl
  sweep_full (suc bound) i e h =
      let z : S.max_withdrawals_per_payload - e.count ≡ 0 = omega arith in
      rw z

  pub sweep_step : (bound i : ℕ) (v : rule.Validator) (e : ExpectedWithdrawals)
      → e.count < S.max_withdrawals_per_payload → v ≡ at b.validators i
      → list_swept S b (suc bound) i e
      ≡ list_swept S b bound ((i + 1) % count b) (list_validator S b.epoch b.next_withdrawal_index i v e)
  unfolding list_swept pushes when◌then◌else◌ list_validator
  sweep_step bound i v e h q = go (ltb 0 (sweep_amount S b.epoch v)) refl
    where
      more : S.max_withdrawals_per_payload - e.count ≡ suc (S.max_withdrawals_per_payload - (e.count + 1))
      more = omega arith

      go : (t : Bool) → ltb 0 (sweep_amount S b.epoch v) ≡ t
          → list_swept S b (suc bound) i e
          ≡ list_swept S b bound ((i + 1) % count b) (list_validator S b.epoch b.next_withdrawal_index i v e)
      go true t = rw more (rw (← q) (rw t (rw (onward b.next_withdrawal_index e.count))))
      go false t = rw more (rw (← q) (rw t (rw more)))

-- ---- what the list holds

padded_set : (n : ℕ) (ws : List rule.Withdrawal) (w : rule.Withdrawal) → length ws < n
    → set (map coded_withdrawal (padded n ws)) (length ws) (coded_withdrawal w)
    ≡ map coded_withdrawal (padded n (ws ++ (w ∷ [])))
unfolding padded
padded_set zero ws w h = absurd (not-suc-le-zero h)
padded_set (suc n) [] w h = refl
padded_set (suc n) (x ∷ ws) w h = ap (λ l. coded_withdrawal x ∷ l) (padded_set n ws w (le_of_suc-le-suc h))

pushed_sixteen : (ws : List rule.Withdrawal) (k : ℕ) (w : rule.Withdrawal) → length ws < 16
    → pushed (sixteen ws k) w ≡ sixteen (ws ++ (w ∷ [])) k
unfolding sixteen
pushed_sixteen ws k w h =
    let n : length ws + 1 ≡ length (ws ++ (w ∷ [])) = simp length-append in
    λ i. record { list = padded_set 16 ws w h i; count = n i; partials = k }

pub pushes_sixteen : (xs ws : List rule.Withdrawal) (k : ℕ) → length ws + length xs ≤ 16
    → pushes xs (sixteen ws k) ≡ sixteen (ws ++ xs) k
unfolding pushes
pushes_sixteen [] ws k h = rw append-nil
pushes_sixteen (x ∷ xs) ws k h =
    let n : length (ws ++ (x ∷ [])) ≡ length ws + 1 = simp length-append in
    rw (pushed_sixteen ws k x (omega arith))
    (pushes_sixteen xs (ws ++ (x ∷ [])) k (omega arith) ∙ rw append_assoc)

module _ (S : rule.Settings) (b : rule.Books)
    (m : S.max_pending_partials_per_withdrawals_sweep ≤ S.max_withdrawals_per_payload)
    (h : S.max_withdrawals_per_payload ≤ 16) where
  abbrev first : ℕ
  first = b.next_withdrawal_index

  abbrev most : ℕ
  most = S.max_pending_partials_per_withdrawals_sweep

  short : length (expected_partial_withdrawals S b) ≤ most
  unfolding expected_partial_withdrawals
  short = partial_withdrawals_length S b first most b.pending_partial_withdrawals

  partials_listed : list_partials S b b.pending_partial_withdrawals no_withdrawals
      ≡ sixteen (expected_partial_withdrawals S b) 0
  unfolding list_partials expected_partial_withdrawals sixteen
  partials_listed =
      let paid = partial_withdrawals S b first most b.pending_partial_withdrawals in
      rw (add-zero, sub-zero) (pushes_sixteen paid [] 0 (omega (arith, short)))

  sweep_listed : (bound i : ℕ) (paid : List rule.Withdrawal) → length paid ≤ S.max_withdrawals_per_payload
      → list_swept S b bound i (with_partials_counted (sixteen paid 0))
      ≡ sixteen
      (paid ++ sweep_withdrawals S b bound i (first + length paid) (S.max_withdrawals_per_payload - length paid))
      (length paid)
  unfolding list_swept sixteen
  sweep_listed bound i paid k =
      let room = S.max_withdrawals_per_payload - length paid in
      let rest = sweep_withdrawals S b bound i (first + length paid) room in
      pushes_sixteen rest paid (length paid)
      (omega (arith, sweep_withdrawals_length S b bound i (first + length paid) room))

  -- both loops
  pub all_listed : list_swept S b
      (min (count b) S.max_validators_per_withdrawals_sweep) b.next_withdrawal_validator_index
      (with_partials_counted (list_partials S b b.pending_partial_withdrawals no_withdrawals))
      ≡ expected_of S b
  unfolding expected_of get_expected_withdrawals
  all_listed =
      let bound = min (count b) S.max_validators_per_withdrawals_sweep in
      let cursor = b.next_withdrawal_validator_index in
      ap (λ e. list_swept S b bound cursor (with_partials_counted e)) partials_listed
      ∙ sweep_listed bound cursor (expected_partial_withdrawals S b) (omega (arith, short))
