-- Records of a queue as so many words of a table.
use Rattle.std.specs.Prelude.{◌≡◌, List, ℕ, ◌+◌, ◌*◌, ◌<◌, get_or, take, drop}
use Rattle.std.proofs.Common.{sym, add-zero, arith}
use Rattle.records.specs.Bytes.{get_d_part}
use Rattle.records.specs.Layout.{deposit_at, partial_at, consolidation_at}

-- record i of a table is made of its own `width` words
pub record OwnWords {A : Type 0} (width : ℕ) (record_at : List ℕ → ℕ → A) : Type 0 where
  pub some : 0 < width
  pub words : (ws : List ℕ) (i : ℕ) → record_at ws i ≡ record_at (take width (drop (width * i) ws)) 0

-- word k of record i
word : (width : ℕ) (ws : List ℕ) (i k : ℕ) → k < width
    → get_or (take width (drop (width * i) ws)) k 0 ≡ get_or ws (width * i + k) 0
word width ws i k h = get_d_part ws (width * i) width k h

pub own_deposit : OwnWords 2 deposit_at
own_deposit = record {
  some = omega arith;
  words = λ ws i. sym (simp (word 2 ws i 0 (omega arith), word 2 ws i 1 (omega arith), add-zero));
}

pub own_partial : OwnWords 3 partial_at
own_partial = record {
  some = omega arith;
  words = λ ws i.
      sym (simp (word 3 ws i 0 (omega arith), word 3 ws i 1 (omega arith), word 3 ws i 2 (omega arith), add-zero));
}

pub own_consolidation : OwnWords 2 consolidation_at
own_consolidation = record {
  some = omega arith;
  words = λ ws i. sym (simp (word 2 ws i 0 (omega arith), word 2 ws i 1 (omega arith), add-zero));
}
