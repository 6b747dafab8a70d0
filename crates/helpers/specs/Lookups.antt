-- Laws of the two walks: the first of equal keys, and the sum owed to a validator.
use Rattle.std.specs.Prelude.{◌≡◌, true, false, List, [], ◌∷◌, ℕ, suc, ◌+◌, ◌≤◌, ◌<◌, drop}
use Rattle.std.proofs.Common.{ap, ◌∙◌, arith}
use Rattle.lists.specs.Base.{when◌then◌else◌, total, same_bytes}
use Rattle.lists.specs.Laws.{if_true, if_false, by_test}
use Rattle.tables.specs.Rows.{rows, drop_rows_at, drop_rows_end}
use Rattle.rules.specs.Types.{Validator, PendingPartialWithdrawal}
use Rattle.rules.specs.Helpers.{position, owed_to}

-- a walk for the first validator with a key has come to i
module _ (key : List ℕ) (n : ℕ) (g : ℕ → Validator) (i : ℕ)
    (inv : i + position key (drop i (rows n g)) ≡ position key (rows n g)) where
  step : i < n
      → position key (drop i (rows n g))
      ≡ (when same_bytes key (g i).public_key then 0 else suc (position key (drop (i + 1) (rows n g))))
  step h = ap (position key) (drop_rows_at n g i h)

  pub position_more : i < n → same_bytes key (g i).public_key ≡ false
      → i + 1 + position key (drop (i + 1) (rows n g)) ≡ position key (rows n g)
  position_more h t = omega (arith, step h ∙ if_false _ 0 _ t)

  pub position_found : i < n → same_bytes key (g i).public_key ≡ true → i ≡ position key (rows n g)
  position_found h t = omega (arith, step h ∙ if_true _ 0 _ t)

  pub position_none : i ≡ n → n ≡ position key (rows n g)
  position_none h = omega (arith, ap (position key) (drop_rows_end n g i (omega arith)))

-- what is owed to one validator is at most the sum of all amounts
pub owed_at_most : (i : ℕ) (ps : List PendingPartialWithdrawal) → total (owed_to i) ps ≤ total (λ p. p.amount) ps
owed_at_most i [] = omega arith
owed_at_most i (p ∷ ps) =
    let h : owed_to i p ≤ p.amount =
    by_test (λ (x : ℕ). x ≤ p.amount) _ (λ e. omega arith) (λ e. omega arith) in
    omega (arith, owed_at_most i ps)
