-- Laws of the printed text, in the forms that the code's proofs use.
use Rattle.std.specs.Prelude.{◌≡◌, List, [], ◌∷◌, ◌++◌, ℕ, zero, suc, ◌+◌, ◌*◌, ◌-◌, ◌/◌, ◌%◌, ◌≤◌, ◌<◌, length}
use Rattle.std.specs.Prelude.{set, take, drop}
use Rattle.std.proofs.Math.Path.{refl, sym}
use Rattle.std.proofs.Common.{ap, ◌∙◌, zero-add, arith, append_assoc, length-append, drop-drop}
use Rattle.std.proofs.Math.Seq.{sets}
use borrow.Rule.Slice.PartMut.{put_mid}
use Rattle.std.proofs.lemmas.List.Edits.{sets-eq}
use Rattle.std.proofs.lemmas.List.{set_comm}
use Rattle.tables.specs.Rows.{drop_rows_at, drop_rows_end}
use Rattle.table_text.specs.Lines.{Line, line, line_at, lines_of}
use Rattle.table_text.specs.Text.{ascii, decimal, space, newline, field}
use Rattle.table_text.specs.Text.{text_line, text_lines, refused_text, Printed}

-- ---- runs of stores

module _ {A : Type 0} where
  -- two runs, one behind the other, are one
  pub sets_append : (l : List A) (i : ℕ) (xs ys : List A) (k : ℕ) → k ≡ i + length xs
      → sets (sets l i xs) k ys ≡ sets l i (xs ++ ys)
  sets_append l i [] ys k e = let f : k ≡ i = omega (arith, e) in ap (λ j. sets l j ys) f
  sets_append l i (x ∷ xs) ys k e = sets_append (set l i x) (suc i) xs ys k (omega (arith, e))

  -- the store behind a run may come first
  pub sets_set : (l : List A) (i : ℕ) (xs : List A) (k : ℕ) (a : A) → i + length xs ≤ k
      → sets (set l k a) i xs ≡ set (sets l i xs) k a
  sets_set l i [] k a h = refl
  sets_set l i (x ∷ xs) k a h =
      ap (λ m. sets m (suc i) xs) (set_comm l k i a x (omega (arith, h)))
      ∙ sets_set (set l i x) (suc i) xs k a (omega (arith, h))

-- what is stored behind what was stored
pub stored_behind : (o : List ℕ) (at : ℕ) (xs ys : List ℕ) (k : ℕ) {m r : List ℕ}
    → m ≡ sets o at xs → r ≡ sets m k ys → k ≡ at + length xs → r ≡ sets o at (xs ++ ys)
stored_behind o at xs ys k p q h = q ∙ ap (λ z. sets z k ys) p ∙ sets_append o at xs ys k h

-- bytes copied to their place
pub bytes_put : (out bs ys : List ℕ) (at w : ℕ) → at + length bs ≤ length out → w ≡ length bs → ys ≡ bs
    → put_mid at w out ys ≡ sets out at bs
bytes_put out bs ys at w h e p =
    let rest : drop w (drop at out) ≡ drop (at + length bs) out = rw e (drop-drop (length bs) at out) in
    (λ j. take at out ++ (p j ++ rest j))
    ∙ sym (append_assoc (take at out) bs (drop (at + length bs) out))
    ∙ sym (sets-eq bs out at h)

-- ---- digits

pub length_decimal : (width n : ℕ) → length (decimal width n) ≡ width
unfolding decimal
length_decimal zero n = refl
length_decimal (suc w) n =
    omega (arith, length-append (decimal w (n / 10)) ((48 + n % 10) ∷ []), length_decimal w (n / 10))

-- a loop that stores digits from the right has the digits of the quotient left
pub digit_more : (out : List ℕ) (at i n d : ℕ) → 0 < i → d ≡ 48 + n % 10
    → sets (set out (at + (i - 1)) d) at (decimal (i - 1) (n / 10)) ≡ sets out at (decimal i n)
unfolding decimal
digit_more out at zero n d h e = let z : ⊥ = omega (arith, h) in absurd z
digit_more out at (suc i) n d h e =
    let front = decimal i (n / 10) in
    let k : suc i - 1 ≡ i = omega arith in
    let l : length front ≡ i = length_decimal i (n / 10) in
    rw (k, e)
    (sets_set out at front (at + i) (48 + n % 10) (omega (arith, l))
    ∙ sets_append out at front ((48 + n % 10) ∷ []) (at + i) (omega (arith, l)))

pub digit_end : (out : List ℕ) (at i n : ℕ) {o : List ℕ} → i ≤ 0 → sets out at (decimal i n) ≡ o → out ≡ o
unfolding decimal
digit_end out at zero n h e = e
digit_end out at (suc i) n h e = let z : ⊥ = omega (arith, h) in absurd z

-- the digits stored, then the byte behind them
pub field_put : (out : List ℕ) (at width n behind : ℕ) {o : List ℕ} → o ≡ sets out at (decimal width n)
    → set o (at + width) behind ≡ sets out at (field width n behind)
unfolding field
field_put out at width n behind e =
    stored_behind out at (decimal width n) (behind ∷ []) (at + width) e refl (omega (arith, length_decimal width n))

pub length_field : (width n behind : ℕ) → length (field width n behind) ≡ width + 1
unfolding field
length_field width n behind =
    omega (arith, length-append (decimal width n) (behind ∷ []), length_decimal width n)

-- ---- lines

pub length_text_line : (position : ℕ) (l : Line) → length (text_line position l) ≡ 32
unfolding decimal field text_line
length_text_line position l = refl

pub length_text_lines : (first : ℕ) (ls : List Line) → length (text_lines first ls) ≡ 32 * length ls
unfolding text_lines
length_text_lines first [] = refl
length_text_lines first (l ∷ ls) =
    omega (
      arith,
      length-append (text_line first l) (text_lines (first + 1) ls),
      length_text_line first l,
      length_text_lines (first + 1) ls,
    )

-- the four fields stored one behind another
pub line_put : (o : List ℕ) (at position code answer total : ℕ) {o₁ o₂ o₃ o₄ : List ℕ}
    → o₁ ≡ sets o at (field 4 position space)
    → o₂ ≡ sets o₁ (at + 5) (field 2 code space)
    → o₃ ≡ sets o₂ (at + 8) (field 2 answer space)
    → o₄ ≡ sets o₃ (at + 11) (field 20 total newline)
    → o₄ ≡ sets o at (text_line position (line code answer total))
unfolding text_line
line_put o at position code answer total p q r s =
    let a = field 4 position space in
    let b = field 2 code space in
    let c = field 2 answer space in
    let d = field 20 total newline in
    let u : length a ≡ 5 = length_field 4 position space in
    let v : length b ≡ 3 = length_field 2 code space in
    let w : length c ≡ 3 = length_field 2 answer space in
    let x = stored_behind o at a b (at + 5) p q (omega (arith, u)) in
    let y = stored_behind o at (a ++ b) c (at + 8) x r (omega (arith, u, v, length-append a b)) in
    stored_behind o at (a ++ b ++ c) d (at + 11) y s
    (omega (arith, u, v, w, length-append a b, length-append (a ++ b) c))

-- a loop that stores lines has the rest of them left
module _ (o ws : List ℕ) (n i : ℕ) where
  abbrev left : ℕ → List ℕ
  left k = text_lines (k + 1) (drop k (lines_of ws n))

  pub line_more : {o₁ : List ℕ} → i < n → o₁ ≡ sets o (23 + 32 * i) (text_line (i + 1) (line_at ws i))
      → sets o₁ (23 + 32 * (i + 1)) (left (i + 1)) ≡ sets o (23 + 32 * i) (left i)
  unfolding text_lines
  line_more h e =
      let l = line_at ws i in
      stored_behind o (23 + 32 * i) (text_line (i + 1) l) (left (i + 1)) (23 + 32 * (i + 1)) e refl
      (omega (arith, length_text_line (i + 1) l))
      ∙ sym (ap (λ ls. sets o (23 + 32 * i) (text_lines (i + 1) ls)) (drop_rows_at n (line_at ws) i h))

  pub lines_end : {p : List ℕ} → n ≤ i → sets o (23 + 32 * i) (left i) ≡ p → o ≡ p
  unfolding text_lines
  lines_end h e =
      sym (ap (λ ls. sets o (23 + 32 * i) (text_lines (i + 1) ls)) (drop_rows_end n (line_at ws) i h)) ∙ e

-- a text stored from the start of a buffer on
pub printed : (text o : List ℕ) {o' : List ℕ} {r : ℕ} → length text ≤ length o → o' ≡ sets o 0 text → r ≡ length text
    → Printed text o o' r
printed text o h e s = record {
  size = s;
  bytes = e ∙ sets-eq text o 0 (omega (arith, h)) ∙ ap (λ k. text ++ drop k o) (zero-add (length text));
}

pub refused_printed : (n : ℕ) (o : List ℕ) {o₁ o₂ : List ℕ} → 11 ≤ length o
    → o₁ ≡ sets o 0 (ascii "refused ") → o₂ ≡ sets o₁ 8 (field 2 n newline) → Printed (refused_text n) o o₂ 11
unfolding refused_text
refused_printed n o h p q =
    let front = ascii "refused " in
    let number = field 2 n newline in
    let size : 11 ≡ length (front ++ number) = omega (arith, length-append front number, length_field 2 n newline) in
    printed (front ++ number) o (omega (arith, size)) (stored_behind o 0 front number 8 p q refl) size
