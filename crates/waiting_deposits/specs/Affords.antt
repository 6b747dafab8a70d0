-- The deposits of a list that a sum pays for, by the rules' `affordable`, and what is left of the sum; the steps of a
-- walk over the list.
use Rattle.std.proofs.Math.Path.{◌≡◌, refl}
use Rattle.std.specs.Prelude.{Option, Some, None, Bool, List, [], ◌∷◌, map}
use Rattle.std.proofs.Math.Bool.{true, false}
use Prim.Native.Nat.{ℕ, ◌+◌, ◌-◌, ◌≤◌}
use native.Mathlib.Omega.{arith}
use Rattle.std.proofs.Math.ListN.{length}
use Rattle.std.proofs.Math.Dec.{ltb}
use borrow.Author.Tests.{ltb-true, ltb-false, lt-ltb, le-ltb}
use Rattle.lists.specs.Base.{when◌then◌else◌}
use Rattle.rules.specs.Types as rule
use Rattle.rules.specs.Acceptance.{deposit_amounts}
use Rattle.rules.specs.Counting as counting
use Rattle.primitives.specs.declared.Gwei.{Gwei}
use Rattle.records.specs.Plain.{plain_deposit}
use Rattle.records.specs.declared.queues.PendingBalanceDeposit.{PendingBalanceDeposit}
use Rattle.waiting_deposits.specs.declared.AffordableDeposits.{AffordableDeposits}

-- what is left after one deposit, where it is within what is left before
unfoldable pub credited : Gwei → Gwei → Option Gwei
credited left amount =
    when ltb left.0 amount.0
    then None
    else Some (record { 0 = left.0 - amount.0 })

abbrev pub affordable_of : List PendingBalanceDeposit → ℕ → List rule.PendingBalanceDeposit
affordable_of ds available = counting.affordable available 0 (map plain_deposit ds)

-- how many of these deposits are credited, and what is left then
unfoldable pub affords : List PendingBalanceDeposit → Gwei → AffordableDeposits
affords ds available = record {
  count = length (affordable_of ds available.0);
  left = record { 0 = available.0 - deposit_amounts (affordable_of ds available.0) };
}

-- ---- the rules' walk from a sum that is spent in part

same_test : (k a b : ℕ) → ltb (k + a) (k + b) ≡ ltb a b
same_test k a b = go (ltb a b) refl
  where
    go : (t : Bool) → ltb a b ≡ t → ltb (k + a) (k + b) ≡ t
    go true e = lt-ltb (k + a) (k + b) (omega (arith, ltb-true a b e))
    go false e = le-ltb (k + a) (k + b) (omega (arith, ltb-false a b e))

-- a limit and what is spent of it, both more by k
more_spent : (k limit spent : ℕ) (ds : List rule.PendingBalanceDeposit)
    → counting.affordable (k + limit) (k + spent) ds ≡ counting.affordable limit spent ds
more_spent k limit spent [] = refl
more_spent k limit spent (d ∷ ds) =
    let sum : k + spent + d.amount ≡ k + (spent + d.amount) = omega arith in
    rw (sum, same_test k limit (spent + d.amount), more_spent k limit (spent + d.amount) ds)

-- what is spent, taken off the limit
pub spent_off : (limit spent : ℕ) (ds : List rule.PendingBalanceDeposit) → spent ≤ limit
    → counting.affordable limit spent ds ≡ counting.affordable (limit - spent) 0 ds
spent_off limit spent ds h =
    let whole : spent + (limit - spent) ≡ limit = omega arith in
    let none : spent + 0 ≡ spent = omega arith in
    rw (whole, none) at (more_spent spent (limit - spent) 0 ds)

-- ---- the steps of a walk

-- an entry to read past the end
abbrev pub no_deposit : PendingBalanceDeposit
no_deposit = record { index = record { 0 = 0 }; amount = record { 0 = 0 } }

-- a walk that ends at i
abbrev pub stop_at : ℕ → Gwei → AffordableDeposits
stop_at i left = record { count = i; left = left }

-- i deposits more before those of p
abbrev pub after : ℕ → AffordableDeposits → AffordableDeposits
after i p = record { count = i + p.count; left = p.left }
