-- What pushes and drains do to the queues.
use Rattle.std.specs.Prelude.{◌≡◌, List, [], ◌∷◌, ◌++◌, ℕ, ◌+◌, ◌*◌, drop}
use Rattle.tables.specs.Rows.{rows}
use Rattle.rules.specs.Types.{PendingBalanceDeposit, PendingPartialWithdrawal, PendingConsolidation}
use Rattle.records.specs.Layout.{deposit_at, partial_at, consolidation_at}

-- record x stands behind the first n, each of them of so many words
pub record Pushed {A : Type 0} (decode : List ℕ → ℕ → A) (width n : ℕ) (x : A) (old new : List ℕ) : Type 0 where
  pub records : rows (n + 1) (decode new) ≡ rows n (decode old) ++ (x ∷ [])
  pub past : drop (width * (n + 1)) new ≡ drop (width * (n + 1)) old

-- the first `gone` records are gone, and `left` are left
pub record Drained {A : Type 0} (decode : List ℕ → ℕ → A) (width gone left : ℕ) (old new : List ℕ) : Type 0 where
  pub records : rows left (decode new) ≡ drop gone (rows (gone + left) (decode old))
  pub past : drop (width * left) new ≡ drop (width * left) old

abbrev pub DepositPushed : ℕ → PendingBalanceDeposit → (old new : List ℕ) → Type 0
DepositPushed = Pushed deposit_at 2

abbrev pub PartialPushed : ℕ → PendingPartialWithdrawal → (old new : List ℕ) → Type 0
PartialPushed = Pushed partial_at 3

abbrev pub ConsolidationPushed : ℕ → PendingConsolidation → (old new : List ℕ) → Type 0
ConsolidationPushed = Pushed consolidation_at 2

abbrev pub DepositsDrained : (gone left : ℕ) (old new : List ℕ) → Type 0
DepositsDrained = Drained deposit_at 2

abbrev pub PartialsDrained : (gone left : ℕ) (old new : List ℕ) → Type 0
PartialsDrained = Drained partial_at 3

abbrev pub ConsolidationsDrained : (gone left : ℕ) (old new : List ℕ) → Type 0
ConsolidationsDrained = Drained consolidation_at 2
