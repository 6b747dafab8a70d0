-- Copies of bytes.
use Rattle.std.specs.Prelude.{◌≡◌, refl, Bool, true, false, List, ◌++◌, ℕ, ◌+◌, ◌-◌, ◌≤◌, ◌<◌, ltb, length, get_or}
use Rattle.std.specs.Prelude.{take, drop}
use Rattle.std.proofs.Common.{ap, sym, ◌∙◌, append_assoc, arith, get_or-take, get_or-drop, length-take-le, take_at}
use Rattle.std.proofs.Common.{drop_at, ltb-true, ltb-false}
use Rattle.std.proofs.Math.Seq.{paste}
use Rattle.std.proofs.lemmas.List.Edits.{length-paste, drop-paste}
use Rattle.tables.specs.Words.{Outside}

-- a byte of a part
pub get_d_part : (l : List ℕ) (at n j : ℕ) → j < n → get_or (take n (drop at l)) j 0 ≡ get_or l (at + j) 0
get_d_part l at n j h = get_or-take n (drop at l) j 0 h ∙ get_or-drop at l j 0

-- ---- n bytes of s put into l from `at` on

module _ (l : List ℕ) (at : ℕ) (s : List ℕ) (n : ℕ) (h : at + n ≤ length l) (k : n ≤ length s) where
  -- the part that is put
  pub paste_part : take n (drop at (paste l at s n)) ≡ take n s
  paste_part =
      ap (take n)
      (ap (drop at) (append_assoc (take at l) (take n s) (drop (at + n) l))
      ∙ drop_at (take at l) (take n s ++ drop (at + n) l) at (length-take-le at l (omega arith)))
      ∙ take_at (take n s) (drop (at + n) l) n (length-take-le n s k)

  -- and the other bytes
  pub paste_outside : Outside at (at + n) (paste l at s n) l
  paste_outside = record { size = length-paste l at s n h k; same = other }
    where
      front : take at (paste l at s n) ≡ take at l
      front =
          ap (take at) (append_assoc (take at l) (take n s) (drop (at + n) l))
          ∙ take_at (take at l) (take n s ++ drop (at + n) l) at (length-take-le at l (omega arith))

      below : (q : ℕ) → q < at → get_or (paste l at s n) q 0 ≡ get_or l q 0
      below q p = sym (get_or-take at (paste l at s n) q 0 p) ∙ ap (λ m. get_or m q 0) front ∙ get_or-take at l q 0 p

      above : (q : ℕ) → get_or (paste l at s n) (at + n + q) 0 ≡ get_or l (at + n + q) 0
      above q =
          sym (get_or-drop (at + n) (paste l at s n) q 0)
          ∙ ap (λ m. get_or m q 0) (drop-paste l at s n (omega arith) k)
          ∙ get_or-drop (at + n) l q 0

      other : (q : ℕ) → (at ≤ q → q < at + n → ⊥) → get_or (paste l at s n) q 0 ≡ get_or l q 0
      other q r = go (ltb q at) (ltb q (at + n)) refl refl
        where
          go : (t u : Bool) → ltb q at ≡ t → ltb q (at + n) ≡ u → get_or (paste l at s n) q 0 ≡ get_or l q 0
          go true u e f = below q (ltb-true q at e)
          go false true e f = absurd (r (ltb-false q at e) (ltb-true q (at + n) f))
          go false false e f =
              let p : at + n ≤ q = ltb-false q (at + n) f in
              let m : at + n + (q - (at + n)) ≡ q = omega arith in
              rw m at (above (q - (at + n)))
