-- The loop that fills in the switchable balances.
use mathlib.Core.Path.{◌≡◌, sym, ap, ◌∙◌}
use mathlib.Core.List.{List}
use Prim.Native.Nat.{ℕ, ◌+◌, ◌<◌, ◌≤◌}
use native.Mathlib.Omega.{arith}
use borrow.Author.Count.{below_more}
use lib.ListN.{length, get_or, set, length-set}
use lib.Seq.{get_or-set_same, get_or-set_other}
use Rattle.tables.specs.Rows.{rows, get_d_rows}
use Rattle.rules.specs.Helpers.{no_validator, prefix}
use Rattle.records.specs.Layout.{validator_at, withdrawal_credentials_at, balance_at}
use Rattle.queue_room.specs.Balances.{Switchable, switchable_amount, switchable_balance}

-- the first i are filled in
pub record Filling (ids ws w : List ℕ) (i : ℕ) : Type 0 where
  pub size : length w ≡ 65536
  pub each : (j : ℕ) → j < i → get_or w j 0 ≡ switchable_balance (validator_at ids ws j)

pub filling_none : {ids ws w : List ℕ} → length w ≡ 65536 → Filling ids ws w 0
filling_none e = record { size = e; each = λ j p. omega arith }

switchable_read : (ids ws : List ℕ) (i : ℕ) {x p b : ℕ} → x ≡ switchable_amount p b
    → p ≡ prefix (withdrawal_credentials_at ids i) → b ≡ balance_at ws i
    → x ≡ switchable_balance (validator_at ids ws i)
unfolding switchable_balance
switchable_read ids ws i e f g = rw (← f, ← g) e

pub filling_more : {ids ws w : List ℕ} {i x p b : ℕ} → Filling ids ws w i → i < 65536 → x ≡ switchable_amount p b
    → p ≡ prefix (withdrawal_credentials_at ids i) → b ≡ balance_at ws i → Filling ids ws (set w i x) (i + 1)
filling_more {ids} {ws} {w} {i} {x} l h e f g = record {
  size = length-set w i x ∙ l.size;
  each = below_more _ _
      (λ j q. get_or-set_other w i j x 0 (omega arith) ∙ l.each j q)
      (get_or-set_same w i x 0 (omega (arith, l.size)) ∙ switchable_read ids ws i e f g);
}

pub filling_end : {ids ws w : List ℕ} {i : ℕ} (n : ℕ) → Filling ids ws w i → n ≤ i
    → Switchable n (rows n (validator_at ids ws)) w
filling_end {ids} {ws} n l h = record {
  each = λ j p.
      l.each j (omega arith) ∙ ap switchable_balance (sym (get_d_rows n (validator_at ids ws) j no_validator p));
}
