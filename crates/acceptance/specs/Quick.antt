-- What one pass over the bits of all validators tells: where it finds them small, they pass their tests.
use Rattle.std.specs.Prelude.{◌≡◌, Some, ℕ, ◌+◌, ◌*◌, ◌%◌, ◌^◌, ◌<◌, ◌≤◌, Bool, true, false, ◌||◌, List, ◌==◌, bit_or}
use Rattle.std.specs.Prelude.{nat_le, refl}
use Rattle.std.proofs.Common.{ap, ap₂, arith, below_more, le-leb, leb-false, eq-eqb}
use Rattle.std.specs.Int.Bits.{or_add_and}
use Rattle.std.proofs.lemmas.Nat.{and_le_l, and_le_r}
use Rattle.lists.specs.Base.{total}
use Rattle.lists.specs.Laws.{join}
use Rattle.tables.specs.Rows.{rows}
use Rattle.tables.specs.Tests.{every_rows}
use Rattle.tables.specs.Totals.{total_bound, total_ext}
use Rattle.rules.specs.Types.{BOUND, FAR}
use Rattle.rules.specs.Acceptance.{epoch_within}
use Rattle.records.specs.Layout.{validator_at, slashed_at, effective_balance_at, balance_at}
use Rattle.records.specs.Layout.{activation_eligibility_epoch_at, activation_epoch_at, exit_epoch_at}
use Rattle.records.specs.Layout.{withdrawable_epoch_at}
use Rattle.acceptance.specs.Tests.{validator_within, tested_sum, bounded}
use Rattle.acceptance.specs.Laws.{tested_within, bounded_some}

-- effective balance and epochs of validator i pass their tests
pub record Within (most : ℕ) (ws : List ℕ) (i : ℕ) : Type 0 where
  pub effective : effective_balance_at ws i ≤ most
  pub eligibility : epoch_within (activation_eligibility_epoch_at ws i) ≡ true
  pub activation : epoch_within (activation_epoch_at ws i) ≡ true
  pub exit : epoch_within (exit_epoch_at ws i) ≡ true
  pub withdrawable : epoch_within (withdrawable_epoch_at ws i) ≡ true

-- so does the flag, and the balance is below 2^46
pub record Small (most : ℕ) (ws : List ℕ) (i : ℕ) : Type 0 where
  pub flag : slashed_at ws i ≤ 1
  pub within : Within most ws i
  pub balance : balance_at ws i < 2 ^ 46

-- ---- joined bits

-- each of two numbers is at most their bits together
pub or_at_least : (a b : ℕ) → (a ≤ bit_or a b) × (b ≤ bit_or a b)
or_at_least a b =
    (omega (arith, or_add_and a b, and_le_r a b), omega (arith, or_add_and a b, and_le_l a b))

-- an epoch that is one more modulo 2^64, FAR being 0
pub epoch_passes : (e : ℕ) → e < 2 ^ 64 → (e + 1) % 2 ^ 64 ≤ BOUND → epoch_within e ≡ true
epoch_passes e h b = go (nat_le e BOUND) refl
  where
    go : (t : Bool) → nat_le e BOUND ≡ t → epoch_within e ≡ true
    go true p = ap (λ t. t || e == FAR) p
    go false p = ap₂ ◌||◌ p (eq-eqb e FAR (omega (arith, leb-false e BOUND p)))

-- what is left of `most`, modulo 2^64
pub effective_passes : (most e left : ℕ) → (left + e) % 2 ^ 64 ≡ most → left ≤ BOUND → e ≤ BOUND → e ≤ most
effective_passes most e left h b c = omega arith

-- ---- the pass

-- the flags, the bits and the balances of the first i validators
abbrev pub Seen : (most : ℕ) (ws : List ℕ) (flags bits balances i : ℕ) → Type 0
Seen most ws flags bits balances i =
    flags ≤ 1 → bits ≤ BOUND → balances < 2 ^ 46 → (j : ℕ) → j < i → Small most ws j

pub seen_more : {most : ℕ} {ws : List ℕ} {flags bits balances i : ℕ} (b : ℕ)
    → Seen most ws flags bits balances i → (b ≤ BOUND → Within most ws i)
    → Seen most ws (bit_or flags (slashed_at ws i)) (bit_or bits b) (bit_or balances (balance_at ws i)) (i + 1)
seen_more {most} {ws} {flags} {bits} {balances} {i} b s w f g h =
    let x = or_at_least flags (slashed_at ws i) in
    let y = or_at_least bits b in
    let z = or_at_least balances (balance_at ws i) in
    below_more _ i (s (omega arith) (omega arith) (omega arith)) (record {
      flag = omega arith;
      within = w (omega arith);
      balance = omega arith;
    })

-- small validators pass, and their balances are their last 46 bits
pub small_within : {most : ℕ} {ws : List ℕ} {i : ℕ} → Small most ws i → (ids : List ℕ)
    → validator_within most (validator_at ids ws i) ≡ true
small_within s ids =
    let w = s.within in
    join (join (le-leb _ _ w.effective) (le-leb _ _ s.flag))
    (join (join (join w.eligibility w.activation) w.exit) w.withdrawable)

pub small_sum : (most : ℕ) (ws : List ℕ) (n sum : ℕ) → n ≤ 2 ^ 16 → ((j : ℕ) → j < n → Small most ws j)
    → sum ≡ total (λ x. x % 2 ^ 46) (rows n (balance_at ws)) → (ids : List ℕ)
    → Some (record { 0 = sum })
    ≡ bounded (tested_sum (validator_within most) (λ v. v.balance) 0 (rows n (validator_at ids ws)))
small_sum most ws n sum f small e ids =
    let of = validator_at ids ws in
    let exact : total (λ v. v.balance) (rows n of) ≡ total (λ x. x % 2 ^ 46) (rows n (balance_at ws)) =
    total_ext (λ v. v.balance) (λ x. x % 2 ^ 46) n of (balance_at ws) (λ i h. omega (arith, (small i h).balance)) in
    let bound : total (λ v. v.balance) (rows n of) ≤ n * 2 ^ 46 =
    total_bound (λ v. v.balance) (2 ^ 46) n of (λ i h. omega (arith, (small i h).balance)) in
    let passes = every_rows (validator_within most) n of (λ i h. small_within (small i h) ids) in
    let tested = tested_within (validator_within most) (λ v. v.balance) 0 (rows n of) passes (omega arith) in
    bounded_some (omega (arith, e, exact, tested)) (omega (arith, e, exact, bound))
