-- A table of deposits, read in blocks of sixteen, and the walk over its blocks.
use Rattle.std.specs.Prelude.{◌≡◌, Bool, set, take, drop, ltb}
use Rattle.std.proofs.Math.Path.{refl, ap}
use Rattle.std.proofs.Common.{sym, ◌∙◌, not-suc-le-zero, le_of_suc-le-suc, add-one, take-append-drop, length-append}
use Rattle.std.proofs.Common.{take-suc-set, drop-drop}
use Rattle.std.proofs.Math.Bool.{true, false}
use mathlib.Core.List.{List, [], ◌∷◌, ◌++◌, map}
use Prim.Native.Nat.{ℕ, zero, suc, ◌+◌, ◌-◌, ◌<◌, ◌≤◌, min}
use native.Mathlib.Omega.{arith}
use Rattle.std.proofs.Math.ListN.{length}
use Rattle.lists.specs.Base.{when◌then◌else◌}
use Rattle.lists.specs.Laws.{total_append}
use Rattle.tables.specs.Rows.{rows, length_rows, rows_snoc, drop_rows, drop_rows_end}
use Rattle.rules.specs.Types as rule
use Rattle.rules.specs.Acceptance.{deposit_amounts}
use Rattle.rules.specs.Counting.{affordable}
use Rattle.rule_laws.specs.Deposits.{affordable_limit, affordable_prefix}
use Rattle.primitives.specs.declared.Gwei.{Gwei}
use Rattle.records.specs.Layout.{deposit_at}
use Rattle.records.specs.Plain.{plain_deposit}
use Rattle.records.specs.declared.queues.PendingBalanceDeposit.{PendingBalanceDeposit}
use Rattle.waiting_deposits.specs.Affords.{affords, spent_off}
use Rattle.waiting_deposits.specs.declared.AffordableDeposits.{AffordableDeposits}
use Rattle.waiting_deposits.specs.declared.DepositBlock.{DepositBlock}

abbrev Deposits : Type 0
Deposits = List rule.PendingBalanceDeposit

-- at most sixteen deposits of a table's first m, from position `from` on
pub record Block (ds : List ℕ) (from m : ℕ) (r : DepositBlock) : Type 0 where
  pub count : r.count ≡ min (m - from) 16
  pub records :
      map plain_deposit (take r.count r.deposits) ≡ rows r.count (λ k. deposit_at ds (from + k))

-- how many of the deposits ds are credited, and what is left of `available` then
pub record Affordable (available : ℕ) (ds : Deposits) (n rest : ℕ) : Type 0 where
  pub count : n ≡ length (affordable available 0 ds)
  pub left : rest ≡ available - deposit_amounts (affordable available 0 ds)

-- ---- a block as it is read

-- the first k of the array are read
pub record Reading (g : ℕ → rule.PendingBalanceDeposit) (list : List PendingBalanceDeposit) (k : ℕ) : Type 0 where
  pub records : map plain_deposit (take k list) ≡ rows k g
  pub size : length list ≡ 16

map_one_more : {A B : Type 0} (f : A → B) (xs : List A) (y : A) → map f (xs ++ (y ∷ [])) ≡ map f xs ++ (f y ∷ [])
map_one_more f [] y = refl
map_one_more f (x ∷ xs) y = ap {B = List _} (λ l. f x ∷ l) (map_one_more f xs y)

pub reading_none : (g : ℕ → rule.PendingBalanceDeposit) (list : List PendingBalanceDeposit) → length list ≡ 16
    → Reading g list 0
unfolding rows
reading_none g list e = record { records = refl; size = e }

pub reading_more : {g : ℕ → rule.PendingBalanceDeposit} {list : List PendingBalanceDeposit} {k : ℕ}
    → Reading g list k → k < 16 → (d : PendingBalanceDeposit) → plain_deposit d ≡ g k → length (set list k d) ≡ 16
    → Reading g (set list k d) (k + 1)
reading_more {g} {list} {k} r h d e size = record {
  records =
      rw (add-one k, take-suc-set list k d (omega (arith, r.size)), map_one_more plain_deposit (take k list) d)
      (rw (r.records, e) (sym (rows_snoc k g)));
  size = size;
}

-- ---- deposits in two parts

module _ (limit : ℕ) (ys : Deposits) where
  stops : (spent : ℕ) (xs : Deposits) → length (affordable limit spent xs) < length xs
      → affordable limit spent (xs ++ ys) ≡ affordable limit spent xs
  unfolding when◌then◌else◌
  stops spent [] h = absurd (not-suc-le-zero h)
  stops spent (d ∷ xs) h =
      go (ltb limit (spent + d.amount)) (affordable limit (spent + d.amount) xs)
      (affordable limit (spent + d.amount) (xs ++ ys)) (stops (spent + d.amount) xs) h
    where
      go : (t : Bool) (some all : Deposits) → (length some < length xs → all ≡ some)
          → length (when t then [] else d ∷ some) < suc (length xs)
          → (when t then [] else d ∷ all) ≡ (when t then [] else d ∷ some)
      go true some all same k = refl
      go false some all same k = ap {B = Deposits} (λ l. d ∷ l) (same (le_of_suc-le-suc k))

  goes : (spent : ℕ) (xs : Deposits) → length xs ≤ length (affordable limit spent xs)
      → (affordable limit spent xs ≡ xs)
      × (affordable limit spent (xs ++ ys) ≡ xs ++ affordable limit (spent + deposit_amounts xs) ys)
  unfolding when◌then◌else◌
  goes spent [] h =
      let none : spent + 0 ≡ spent = omega arith in
      (refl, rw none)
  goes spent (d ∷ xs) h =
      let sum : spent + d.amount + deposit_amounts xs ≡ spent + (d.amount + deposit_amounts xs) = omega arith in
      go (ltb limit (spent + d.amount)) (affordable limit (spent + d.amount) xs)
      (affordable limit (spent + d.amount) (xs ++ ys)) (affordable limit (spent + (d.amount + deposit_amounts xs)) ys)
      (rw sum at (goes (spent + d.amount) xs)) h
    where
      go : (t : Bool) (some all rest : Deposits)
          → (length xs ≤ length some → (some ≡ xs) × (all ≡ xs ++ rest))
          → suc (length xs) ≤ length (when t then [] else d ∷ some)
          → ((when t then [] else d ∷ some) ≡ d ∷ xs) × ((when t then [] else d ∷ all) ≡ d ∷ xs ++ rest)
      go true some all rest same k = absurd (not-suc-le-zero k)
      go false some all rest same k =
          let both = same (le_of_suc-le-suc k) in
          (ap {B = Deposits} (λ l. d ∷ l) both.0, ap {B = Deposits} (λ l. d ∷ l) both.1)

-- ---- the walk over the blocks of the first m records g

-- what is known of deposits that were lent, read as xs
pub lent_block : (ds : List PendingBalanceDeposit) (left : Gwei) (xs : Deposits) (r : AffordableDeposits)
    → map plain_deposit ds ≡ xs → r ≡ affords ds left → Affordable left.0 xs r.count r.left.0
unfolding affords
lent_block ds left xs r e is = record {
  count = ap (λ (x : AffordableDeposits). x.count) is ∙ rw e;
  left = ap (λ (x : AffordableDeposits). x.left.0) is ∙ rw e;
}

-- `next` deposits are credited, and `left` is left of `available`
pub record Walking (available m : ℕ) (g : ℕ → rule.PendingBalanceDeposit) (next left : ℕ) : Type 0 where
  pub reached : next ≤ m
  pub count :
      length (affordable available 0 (rows m g)) ≡ next + length (affordable left 0 (drop next (rows m g)))
  pub rest :
      available - deposit_amounts (affordable available 0 (rows m g))
      ≡ left - deposit_amounts (affordable left 0 (drop next (rows m g)))

pub take_rows : {A : Type 0} (c n : ℕ) (g : ℕ → A) → c ≤ n → take c (rows n g) ≡ rows c g
unfolding rows
take_rows zero n g h = refl
take_rows (suc c) zero g h = absurd (not-suc-le-zero h)
take_rows (suc c) (suc n) g h = ap (λ l. g 0 ∷ l) (take_rows c n (λ k. g (suc k)) (le_of_suc-le-suc h))

module _ {available m : ℕ} {g : ℕ → rule.PendingBalanceDeposit} {next left : ℕ}
    (w : Walking available m g next left) where
  pub walking_end : m ≤ next → Affordable available (rows m g) next left
  walking_end h =
      let none = drop_rows_end m g next h in
      record {
        count = sym (rw none at w.count ∙ omega arith);
        left = sym (rw none at w.rest ∙ omega arith);
      }

  -- the next block, of c deposits
  module _ (c : ℕ) (few : next + c ≤ m) where
    abbrev xs : Deposits
    xs = rows c (λ k. g (next + k))

    abbrev ys : Deposits
    ys = drop (next + c) (rows m g)

    parts : drop next (rows m g) ≡ xs ++ ys
    parts =
        sym (take-append-drop c (drop next (rows m g)))
        ∙ rw (
          drop-drop c next (rows m g),
          drop_rows next m g w.reached,
          take_rows c (m - next) (λ k. g (next + k)) (omega arith),
        )

    -- what is known of the block
    module _ (count rest : ℕ) (is : Affordable left xs count rest) where
      pub walking_within : next + count ≤ m
      walking_within =
          let whole = ap length (affordable_prefix left 0 xs) in
          let apart = length-append (affordable left 0 xs) (drop (length (affordable left 0 xs)) xs) in
          omega (arith, is.count, whole, apart, length_rows c (λ k. g (next + k)), few)

      pub walking_stop : count < c → Affordable available (rows m g) (next + count) rest
      walking_stop h =
          let short : length (affordable left 0 xs) < length xs =
          omega (arith, is.count, length_rows c (λ k. g (next + k))) in
          let same = ap (affordable left 0) parts ∙ stops left ys 0 xs short in
          record {
            count = sym (rw same at w.count ∙ ap (λ n. next + n) (sym is.count));
            left = sym (rw same at w.rest ∙ sym is.left);
          }

      pub walking_more : c ≤ count → Walking available m g (next + count) rest
      walking_more h =
          let size = length_rows c (λ k. g (next + k)) in
          let both = goes left ys 0 xs (omega (arith, is.count, size)) in
          let all : count ≡ c = is.count ∙ ap length both.0 ∙ size in
          let spent = ap deposit_amounts both.0 in
          let enough : deposit_amounts xs ≤ left = omega (arith, spent, affordable_limit left 0 xs (omega arith)) in
          let after : rest ≡ left - deposit_amounts xs = is.left ∙ ap (λ n. left - n) spent in
          let none : 0 + deposit_amounts xs ≡ deposit_amounts xs = omega arith in
          let later : affordable left (0 + deposit_amounts xs) ys ≡ affordable rest 0 ys =
          rw (none, after) (spent_off left (deposit_amounts xs) ys enough) in
          let further : affordable left 0 (drop next (rows m g)) ≡ xs ++ affordable rest 0 ys =
          ap (affordable left 0) parts ∙ both.1 ∙ ap (λ l. xs ++ l) later in
          let sizes = ap length further ∙ length-append xs (affordable rest 0 ys) in
          let sums = ap deposit_amounts further ∙ total_append (λ d. d.amount) xs (affordable rest 0 ys) in
          let same : left - deposit_amounts (affordable left 0 (drop next (rows m g)))
          ≡ rest - deposit_amounts (affordable rest 0 ys) = omega (arith, sums, after, enough) in
          rw all (record { reached = few; count = omega (arith, w.count, sizes, size); rest = w.rest ∙ same })
