-- The front of a handed list, which is the withdrawals of its count: what `==` says of two of them, what a loop over
-- one reads, and its last withdrawal.
use Rattle.std.specs.Prelude.{◌≡◌, refl, Bool, true, false, ◌&&◌, List, [], ◌∷◌, ℕ}
use Rattle.std.specs.Prelude.{zero, suc, ◌+◌, ◌-◌, ◌<◌, ◌≤◌, length, take, drop, get_or, eqb}
use Rattle.std.proofs.Common.{ap, ap₂, ◌∙◌, arith, le_of_suc-le-suc, not-suc-le-zero}
use Rattle.std.proofs.lemmas.List.{get_or-take, length-take-le}
use Rattle.std.specs.Cmp.Lexicographic.{pointwise}
use Rattle.lists.specs.Base.{every, same_bytes}
use Rattle.rules.specs.Types as rule
use Rattle.rules.specs.BlockProcessing.{same_withdrawal, same_withdrawals}
use Rattle.expected_withdrawals.specs.declared.Withdrawal.{Withdrawal}
use Rattle.expected_withdrawals.specs.Expected.{plain_withdrawal, padded, handed_list}
use Rattle.expected_withdrawals.specs.Handed.{past}
use Rattle.withdrawals.specs.Laws.{handed_at, handed_end, handed_passes}

pub bytes_compared : (a b : List ℕ) → pointwise eqb a b ≡ same_bytes a b
bytes_compared [] [] = refl
bytes_compared [] (y ∷ ys) = refl
bytes_compared (x ∷ xs) [] = refl
bytes_compared (x ∷ xs) (y ∷ ys) = ap₂ ◌&&◌ refl (bytes_compared xs ys)

-- the fields of a derived `==` stand to the right, those of the rule to the left
grouped : (a b c d : Bool) → (a && (b && (c && d))) ≡ (a && b && c && d)
grouped true true c d = refl
grouped true false c d = refl
grouped false b c d = refl

pub fields_compared : (x y : Withdrawal)
    → (eqb x.index.0 y.index.0
    && (eqb x.validator_index.0 y.validator_index.0
    && (pointwise eqb x.address y.address && eqb x.amount.0 y.amount.0)))
    ≡ same_withdrawal (plain_withdrawal x) (plain_withdrawal y)
fields_compared x y =
    rw bytes_compared
    (grouped (eqb x.index.0 y.index.0) (eqb x.validator_index.0 y.validator_index.0)
    (same_bytes x.address y.address) (eqb x.amount.0 y.amount.0))

module _ (E : Withdrawal → Withdrawal → Bool)
    (e : (x y : Withdrawal) → E x y ≡ same_withdrawal (plain_withdrawal x) (plain_withdrawal y)) where
  pub handed_compared : (l m : List Withdrawal) (n : ℕ) → n ≤ length l → n ≤ length m
      → pointwise E (take n l) (take n m) ≡ same_withdrawals (handed_list l n) (handed_list m n)
  unfolding handed_list padded
  handed_compared l m zero h k = refl
  handed_compared [] m (suc n) h k = absurd (not-suc-le-zero h)
  handed_compared (x ∷ l) [] (suc n) h k = absurd (not-suc-le-zero k)
  handed_compared (x ∷ l) (y ∷ m) (suc n) h k =
      ap₂ ◌&&◌ (e x y) (handed_compared l m n (le_of_suc-le-suc h) (le_of_suc-le-suc k))

module _ (list : List Withdrawal) (n : ℕ) (h : n ≤ length list) where
  -- one turn of a loop over the front
  module _ {k : ℕ} (q : k < length (take n list)) where
    inside : k < n
    inside = omega (arith, length-take-le n list h)

    pub front_passes : (t : rule.Withdrawal → Bool) → every t (handed_list list n) ≡ true
        → t (plain_withdrawal (get_or (take n list) k past)) ≡ true
    front_passes t e =
        rw (get_or-take n list k past inside) (handed_passes list n k t inside (omega (arith, inside)) e)

    pub front_at : drop k (handed_list list n)
        ≡ plain_withdrawal (get_or (take n list) k past) ∷ drop (k + 1) (handed_list list n)
    front_at = rw (get_or-take n list k past inside) (handed_at list n k inside (omega (arith, inside)))

  pub front_end : {k : ℕ} → length (take n list) ≤ k → drop k (handed_list list n) ≡ []
  front_end {k} q = handed_end list n k (omega (arith, length-take-le n list h))

  pub front_empty : length (take n list) ≤ 0 → 0 ≡ n
  front_empty q = omega (arith, length-take-le n list h)

  pub front_last : {w : Withdrawal} → 0 < length (take n list)
      → w ≡ get_or (take n list) (length (take n list) - 1) past → (0 < n) × (w ≡ get_or list (n - 1) past)
  front_last q e =
      let l = length-take-le n list h in
      let p : 0 < n = omega arith in (
        p,
        e ∙ ap (λ m. get_or (take n list) (m - 1) past) l ∙ get_or-take n list (n - 1) past (omega arith),
      )
