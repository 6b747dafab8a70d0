-- The steps of a walk over the list of deposits.
use Rattle.std.proofs.Math.Path.{◌≡◌, refl, ap}
use Rattle.std.proofs.Common.{sym, ◌∙◌, add-one, drop_of_length-le, drop-cons}
use Rattle.std.specs.Prelude.{Some, None, Bool, List, [], ◌∷◌, map, get_or, drop}
use Rattle.std.proofs.Math.Bool.{true, false}
use Prim.Native.Nat.{ℕ, suc, ◌+◌, ◌-◌, ◌<◌, ◌≤◌}
use native.Mathlib.Omega.{arith}
use Rattle.std.proofs.Math.ListN.{length}
use Rattle.std.proofs.Math.Dec.{ltb}
use borrow.Author.Tests.{ltb-true, ltb-false, lt-ltb, le-ltb}
use Rattle.lists.specs.Base.{when◌then◌else◌}
use Rattle.rules.specs.Acceptance.{deposit_amounts}
use Rattle.primitives.specs.declared.Gwei.{Gwei}
use Rattle.records.specs.Plain.{plain_deposit}
use Rattle.records.specs.declared.queues.PendingBalanceDeposit.{PendingBalanceDeposit}
use Rattle.waiting_deposits.specs.Affords.{credited, affordable_of, affords, spent_off, no_deposit, stop_at, after}

-- ---- one deposit

over : (left amount : Gwei) → credited left amount ≡ None → left.0 < amount.0
unfolding credited when◌then◌else◌
over left amount e = go (ltb left.0 amount.0) refl
  where
    go : (t : Bool) → ltb left.0 amount.0 ≡ t → left.0 < amount.0
    go true f = ltb-true left.0 amount.0 f
    go false f = let z = rw f at e in cc

under : (left amount : Gwei) {rest : Gwei} → credited left amount ≡ Some rest
    → (amount.0 ≤ left.0) × (rest ≡ record { 0 = left.0 - amount.0 })
unfolding credited when◌then◌else◌
under left amount {rest} e = go (ltb left.0 amount.0) refl
  where
    go : (t : Bool) → ltb left.0 amount.0 ≡ t → (amount.0 ≤ left.0) × (rest ≡ record { 0 = left.0 - amount.0 })
    go false f = let z = rw f at e in (ltb-false left.0 amount.0 f, cc)
    go true f = let z = rw f at e in cc

pub credited_none : (left amount : Gwei) → left.0 < amount.0 → credited left amount ≡ None
unfolding credited when◌then◌else◌
credited_none left amount h = rw (lt-ltb left.0 amount.0 h)

pub credited_some : (left amount : Gwei) → amount.0 ≤ left.0
    → credited left amount ≡ Some (record { 0 = left.0 - amount.0 })
unfolding credited when◌then◌else◌
credited_some left amount h = rw (le-ltb left.0 amount.0 h)

-- ---- the list

affords_none : (left : Gwei) → affords [] left ≡ stop_at 0 left
unfolding affords
affords_none left = λ i. record { count = 0; left = record { 0 = same i } }
  where
    same : left.0 - 0 ≡ left.0
    same = omega arith

module _ (d : PendingBalanceDeposit) (ds : List PendingBalanceDeposit) (left : Gwei) where
  affords_over : left.0 < d.amount.0 → affords (d ∷ ds) left ≡ stop_at 0 left
  unfolding affords when◌then◌else◌
  affords_over h =
      let sum : 0 + d.amount.0 ≡ d.amount.0 = omega arith in
      let same : left.0 - 0 ≡ left.0 = omega arith in
      rw (sum, lt-ltb left.0 d.amount.0 h, same)

  affords_more : d.amount.0 ≤ left.0
      → affords (d ∷ ds) left ≡ after 1 (affords ds (record { 0 = left.0 - d.amount.0 }))
  unfolding affords when◌then◌else◌
  affords_more h =
      let rest = affordable_of ds (left.0 - d.amount.0) in
      let sum : 0 + d.amount.0 ≡ d.amount.0 = omega arith in
      let one : suc (length rest) ≡ 1 + length rest = omega arith in
      let less : left.0 - (d.amount.0 + deposit_amounts rest) ≡ left.0 - d.amount.0 - deposit_amounts rest =
      omega arith in
      let paid = spent_off left.0 d.amount.0 (map plain_deposit ds) h in
      rw (sum, le-ltb left.0 d.amount.0 h, paid, one, less)

module _ (ds : List PendingBalanceDeposit) (i : ℕ) (left : Gwei) where
  stopped : after i (stop_at 0 left) ≡ stop_at i left
  stopped = λ k. record { count = same k; left = left }
    where
      same : i + 0 ≡ i
      same = omega arith

  pub at_end : length ds ≤ i → after i (affords (drop i ds) left) ≡ stop_at i left
  at_end past =
      ap (λ (xs : List PendingBalanceDeposit). after i (affords xs left)) (drop_of_length-le ds past)
      ∙ ap (after i) (affords_none left)
      ∙ stopped

  module _ (within : i < length ds) where
    abbrev d : PendingBalanceDeposit
    d = get_or ds i no_deposit

    here : affords (drop i ds) left ≡ affords (d ∷ drop (suc i) ds) left
    here = ap (λ (xs : List PendingBalanceDeposit). affords xs left) (drop-cons ds i no_deposit within)

    pub at_over : credited left d.amount ≡ None → after i (affords (drop i ds) left) ≡ stop_at i left
    at_over e = ap (after i) (here ∙ affords_over d (drop (suc i) ds) left (over left d.amount e)) ∙ stopped

    pub at_more : {rest : Gwei} → credited left d.amount ≡ Some rest
        → after i (affords (drop i ds) left) ≡ after (i + 1) (affords (drop (i + 1) ds) rest)
    at_more {rest} e =
        let h = under left d.amount e in
        let next : suc i ≡ i + 1 = sym (add-one i) in
        let sum : (n : ℕ) → i + (1 + n) ≡ i + 1 + n = λ n. omega arith in
        ap (after i) (here ∙ affords_more d (drop (suc i) ds) left h.0)
        ∙ rw (← h.1, next, sum)
