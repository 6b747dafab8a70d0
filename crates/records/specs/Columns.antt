-- Stores into a table that is laid out by columns of c words.
use Rattle.std.specs.Prelude.{◌≡◌, refl, ◌≢◌, Bool, true, false, List, ℕ, ◌+◌, ◌-◌, ◌*◌, ◌≤◌, ◌<◌, eqb, ltb, length}
use Rattle.std.specs.Prelude.{get_or, set, take, drop}
use Rattle.std.proofs.Common.{ap, ◌∙◌, arith, length-take, length-drop, get_or-set_same, get_or-set_other, drop-set-lt}
use Rattle.std.proofs.Common.{eqb-true, ltb-true, ltb-false}
use Rattle.std.proofs.lemmas.List.{drop-set-add}
use Rattle.std.proofs.Math.Seq.{take-set-lt}
use Rattle.std.proofs.lemmas.Bool.{eqb-false}
use Rattle.tables.specs.Words.{Outside, outside_none, outside_more, outside_part, outside_drop}
use Rattle.records.specs.Bytes.{get_d_part}
use Rattle.records.specs.Layout.{column}

pub column_read : (c k : ℕ) (l : List ℕ) (i : ℕ) → i < c → get_or (column c k l) i 0 ≡ get_or l (k * c + i) 0
column_read c k l i h = get_d_part l (k * c) c i h

-- w columns of c words, of which k is one
pub column_within : (w c k i : ℕ) → k < w → i < c → k * c + i < w * c
column_within w c k i h l =
    let d = w - (k + 1) in
    let e : w ≡ k + 1 + d = omega arith in
    rw e (omega arith)

-- no word stands in two columns
columns_apart : (c j k i q : ℕ) → j ≢ k → i < c → j * c ≤ q → q < j * c + c → k * c + i ≤ q → q < k * c + i + 1 → ⊥
columns_apart c j k i q n h a b s t = go (ltb j k) refl
  where
    go : (t : Bool) → ltb j k ≡ t → ⊥
    go true e =
        let p : j < k = ltb-true j k e in
        let d = k - (j + 1) in
        let z : k ≡ j + 1 + d = omega arith in
        let s₁ : (j + 1 + d) * c + i ≤ q = rw z at s in
        omega arith
    go false e =
        let p : k ≤ j = ltb-false j k e in
        let d = j - (k + 1) in
        let z : j ≡ k + 1 + d = omega arith in
        let a₁ : (k + 1 + d) * c ≤ q = rw z at a in
        omega arith

-- word i of column k becomes x
module _ (c k : ℕ) (l : List ℕ) (i x : ℕ) (h : i < c) where
  abbrev new : List ℕ
  new = set l (k * c + i) x

  stored : Outside (k * c + i) (k * c + i + 1) new l
  stored = outside_more (k * c + i) x (omega arith) (outside_none {lo = k * c + i + 1})

  pub column_stored : column c k new ≡ set (column c k l) i x
  column_stored = ap (take c) (drop-set-add (k * c) l i x) ∙ take-set-lt c (drop (k * c) l) i x h

  pub column_apart : (j : ℕ) → j ≢ k → column c j new ≡ column c j l
  column_apart j n = outside_part stored (j * c) c (λ q a b s t. columns_apart c j k i q n h a b s t)

  pub column_here : k * c + c ≤ length l → get_or (column c k new) i 0 ≡ x
  column_here f =
      ap (λ m. get_or m i 0) column_stored
      ∙ get_or-set_same (column c k l) i x 0
      (omega (arith, length-take c (drop (k * c) l), length-drop (k * c) l))

  -- the other records, in whatever column
  pub column_other : (j m : ℕ) → m ≢ i → get_or (column c j new) m 0 ≡ get_or (column c j l) m 0
  column_other j m n = go (eqb j k) refl
    where
      go : (t : Bool) → eqb j k ≡ t → get_or (column c j new) m 0 ≡ get_or (column c j l) m 0
      go true e =
          let z : j ≡ k = eqb-true j k e in
          rw z (ap (λ y. get_or y m 0) column_stored ∙ get_or-set_other (column c k l) i m x 0 n)
      go false e = ap (λ y. get_or y m 0) (column_apart j (eqb-false j k e))

  -- what stands past the first n records
  pub column_past : (j n : ℕ) → i < n → drop n (column c j new) ≡ drop n (column c j l)
  column_past j n b = go (eqb j k) refl
    where
      go : (t : Bool) → eqb j k ≡ t → drop n (column c j new) ≡ drop n (column c j l)
      go true e =
          let z : j ≡ k = eqb-true j k e in
          rw z (ap (drop n) column_stored ∙ drop-set-lt n (column c k l) i x b)
      go false e = ap (drop n) (column_apart j (eqb-false j k e))

  -- what stands behind w columns
  pub columns_behind : (w : ℕ) → k < w → drop (w * c) new ≡ drop (w * c) l
  columns_behind w b = outside_drop stored (w * c) (omega (arith, column_within w c k i b h))
