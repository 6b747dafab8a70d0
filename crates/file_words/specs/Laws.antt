-- The facts that the functions on words and fields are proved by.
use Rattle.std.specs.Prelude.{◌≡◌, ℕ, zero, suc, ◌+◌, ◌-◌, ◌*◌, ◌/◌, ◌%◌, ◌^◌, ◌<◌, ◌≤◌, Bool, true, false, ◌&&◌, List}
use Rattle.std.specs.Prelude.{length, take, drop, ◌==◌, ◌≢◌, nat_eq, nat_lt, slice_index, slice_index_or, refl, [], ◌∷◌}
use Rattle.std.specs.Prelude.{min}
use Rattle.std.specs.List.{list_all, range_with_len}
use Rattle.std.proofs.Math.Path.{sym, ap}
use Rattle.std.proofs.Math.Logic.{◌⊎◌, inl, inr}
use Rattle.std.proofs.Math.Seq.{take-length, drop-nil}
use Rattle.std.proofs.lemmas.Bool.{cases_lt}
use Rattle.std.proofs.Common.{◌∙◌, zero-add, add-one, length-drop, drop-drop, get_or-drop, eq-eqb, ne_eqb, eqb-true}
use Rattle.std.proofs.Common.{ltb-true}
use native.Mathlib.Omega.{arith}
use Rattle.std.proofs.Math.ListN.{get_or-eq_default, drop_of_length-le}
use Rattle.lists.specs.Laws.{both, join, and_false, and_true, and_assoc, same_test}
use Rattle.file_format.specs.Words.{words, payload, is_word, wrapping_sum}
use Rattle.file_format.specs.Fields.{Format, number, flag, field, field_ok, is_three_bytes, second, third, many}
use Rattle.file_format.specs.File.{ends}
use Rattle.file_format.specs.Places.{number_at}
use Rattle.file_format.proofs.AccessLaws.{Fixed, fixed_at, fixed_number, fixed_numbers}
use Rattle.file_format.proofs.AccessLaws.{get_d_at}
use Rattle.file_format.proofs.AccessLaws.{many_step}
use Rattle.file_format.proofs.PlacesLaws.{length_words, word_at, sum_step, number_words_at}

-- ---- a word

pub word_there : (bs : List ℕ) (k r : ℕ) → k < length bs / 4
    → r
    ≡ slice_index bs (k * 4)
    + slice_index bs (k * 4 + 1) * 256
    + slice_index bs (k * 4 + 2) * 65536
    + slice_index bs (k * 4 + 3) * 16777216
    → r ≡ slice_index (words bs) k
word_there bs k r h e = e ∙ sym (word_at bs k h)

pub word_none : (bs : List ℕ) (k : ℕ) → length bs / 4 ≤ k → 0 ≡ slice_index (words bs) k
word_none bs k h = sym (get_or-eq_default (words bs) 0 (omega (arith, length_words bs)))

-- ---- what is left of a file

four_more : (m : ℕ) (us : List ℕ → List ℕ) → ((bs : List ℕ) → words (drop m bs) ≡ us (words bs))
    → us [] ≡ [] → (bs : List ℕ) → words (drop (suc (suc (suc (suc m)))) bs) ≡ us (drop 1 (words bs))
four_more m us f e [] = sym e
four_more m us f e (a ∷ []) = sym e
four_more m us f e (a ∷ b ∷ []) = sym e
four_more m us f e (a ∷ b ∷ c ∷ []) = sym e
four_more m us f e (a ∷ b ∷ c ∷ d ∷ bs) = f bs

words_drop : (k : ℕ) (bs : List ℕ) → words (drop (k * 4) bs) ≡ drop k (words bs)
words_drop zero bs = refl
words_drop (suc k) bs =
    let four : suc k * 4 ≡ suc (suc (suc (suc (k * 4)))) = omega arith in
    let one : 1 + k ≡ suc k = omega arith in
    let behind = drop-drop k 1 (words bs) ∙ ap (λ n. drop n (words bs)) one in
    rw four (four_more (k * 4) (drop k) (words_drop k) (drop-nil k) bs ∙ behind)

pub words_behind : (bs : List ℕ) (k m : ℕ) → m ≡ min k (length bs / 4)
    → words (take (length bs - m * 4) (drop (m * 4) bs)) ≡ drop k (words bs)
words_behind bs k m e =
    let whole = ap (λ n. take n (drop (m * 4) bs)) (sym (length-drop (m * 4) bs)) ∙ take-length (drop (m * 4) bs) in
    ap words whole ∙ words_drop m bs ∙ same (cases_lt k (length bs / 4))
  where
    same : (k < length bs / 4) ⊎ (length bs / 4 ≤ k) → drop m (words bs) ≡ drop k (words bs)
    same (inl h) = ap (λ n. drop n (words bs)) (omega (arith, e))
    same (inr h) =
        drop_of_length-le (words bs) (omega (arith, e, length_words bs))
        ∙ sym (drop_of_length-le (words bs) (omega (arith, length_words bs)))

-- ---- a number, a flag

pub number_judged : (ws : List ℕ) (k low middle top : ℕ) (a b c s r : Bool)
    → low ≡ slice_index ws k → middle ≡ slice_index ws (k + 1) → top ≡ slice_index ws (k + 2)
    → a ≡ is_word 3 (2 ^ 28) low → b ≡ is_word 4 (2 ^ 28) middle → c ≡ is_word 5 (2 ^ 8) top
    → s ≡ b && c → r ≡ a && s → r ≡ number.ok (drop k ws)
unfolding number
number_judged ws k low middle top a b c s r e₁ e₂ e₃ e₄ e₅ e₆ e₇ e₈ =
    let x = get_d_at k ws in
    let y = get_or-drop k ws 1 0 in
    let z = get_or-drop k ws 2 0 in
    cc

-- a number lies within the file
pub number_inside : (bs : List ℕ) → number.ok (words bs) ≡ true → 3 ≤ length bs / 4
number_inside bs e = omega (arith, fixed_number.long (words bs) e, length_words bs)

pub number_outside : (bs : List ℕ) → length bs / 4 < 3 → false ≡ number.ok (words bs)
number_outside bs h = go (number.ok (words bs)) refl
  where
    go : (t : Bool) → number.ok (words bs) ≡ t → false ≡ t
    go true e =
        let z : ⊥ = omega (arith, number_inside bs e) in
        absurd z
    go false e = refl

pub flag_judged : (ws : List ℕ) (w : ℕ) (r : Bool) → w ≡ slice_index ws 0 → r ≡ is_word 7 2 w → r ≡ flag.ok ws
unfolding flag
flag_judged ws w r e h = h ∙ ap (is_word 7 2) e

-- a number that was judged good, by its words
pub top_small : (ws : List ℕ) (top : ℕ) → number.ok ws ≡ true → top ≡ slice_index ws 2 → top % 2 ^ 28 < 256
unfolding number
top_small ws top e t =
    let first = is_word 3 (2 ^ 28) (slice_index ws 0) in
    let second = is_word 4 (2 ^ 28) (slice_index ws 1) in
    let third = is_word 5 (2 ^ 8) (slice_index ws 2) in
    let u = (both second third (both first (second && third) e).1).1 in
    let w = slice_index_or ws 2 0 in
    let small : payload w < 256 = ltb-true _ _ (both (w / 2 ^ 28 == 5) (nat_lt (payload w) 256) u).1 in
    rw t small

pub number_made : (ws : List ℕ) (low middle top r : ℕ) → low ≡ slice_index ws 0 → middle ≡ slice_index ws 1
    → top ≡ slice_index ws 2 → r ≡ low % 2 ^ 28 + middle % 2 ^ 28 * 2 ^ 28 + top % 2 ^ 28 * 2 ^ 56
    → r ≡ number.value ws
unfolding number
number_made ws low middle top r p q t e = e ∙ (λ j. payload (p j) + payload (q j) * 2 ^ 28 + payload (t j) * 2 ^ 56)

-- the same of a number that begins at word k
pub number_inside_at : (bs : List ℕ) (k : ℕ) → number.ok (drop k (words bs)) ≡ true → k + 3 ≤ length bs / 4
number_inside_at bs k e =
    omega (arith, fixed_number.long (drop k (words bs)) e, length-drop k (words bs), length_words bs)

pub top_small_at : (ws : List ℕ) (k top : ℕ) → number.ok (drop k ws) ≡ true → top ≡ slice_index ws (k + 2)
    → top % 2 ^ 28 < 256
top_small_at ws k top e t = top_small (drop k ws) top e (t ∙ sym (get_or-drop k ws 2 0))

pub number_made_at : (ws : List ℕ) (k low middle top r : ℕ) → low ≡ slice_index ws k → middle ≡ slice_index ws (k + 1)
    → top ≡ slice_index ws (k + 2) → r ≡ low % 2 ^ 28 + middle % 2 ^ 28 * 2 ^ 28 + top % 2 ^ 28 * 2 ^ 56
    → r ≡ number_at ws k
number_made_at ws k low middle top r p q t e =
    e
    ∙ (λ j. payload (p j) + payload (q j) * 2 ^ 28 + payload (t j) * 2 ^ 56)
    ∙ sym (number_words_at ws k)

pub flag_made : (ws : List ℕ) (w : ℕ) → w ≡ slice_index ws 0 → w % 2 ^ 28 ≡ flag.value ws
unfolding flag
flag_made ws w e = ap payload e

-- ---- n records in a row, each judged in its place

module _ {A : Type 0} (F : Format A) (m : ℕ) (f : Fixed F m) (ws : List ℕ) where
  all_from : (n i : ℕ) → list_all (λ j. F.ok (drop (j * m) ws)) (range_with_len i n) ≡ (many F n).ok (drop (i * m) ws)
  unfolding many
  all_from zero i = refl
  all_from (suc n) i =
      let next : i * m + m ≡ (i + 1) * m = omega arith in
      let rest = fixed_at f (i * m) ws ∙ ap (λ j. drop j ws) next in
      ap (λ t. F.ok (drop (i * m) ws) && t) (all_from n (i + 1) ∙ ap (many F n).ok (sym rest))

  -- each of n records is good
  pub many_all : (n : ℕ) → list_all (λ j. F.ok (drop (j * m) ws)) (range_with_len 0 n) ≡ (many F n).ok ws
  many_all n =
      let here : 0 * m ≡ 0 = omega arith in
      all_from n 0 ∙ ap (λ j. (many F n).ok (drop j ws)) here

  -- a loop that does not stop: what was good so far, and the next
  pub many_and : (i : ℕ) (g r s : Bool) → g ≡ (many F i).ok ws → r ≡ F.ok (drop (i * m) ws) → s ≡ g && r
      → s ≡ (many F (i + 1)).ok ws
  many_and i g r s e h a = rw add-one (a ∙ (λ j. e j && h j) ∙ sym (many_step F m f i ws))

pub many_start : {A : Type 0} (F : Format A) (us : List ℕ) → (many F 0).ok us ≡ true
unfolding many
many_start F us = refl

-- of numbers that do not lie within the file, none are good
pub numbers_outside : (bs : List ℕ) (n : ℕ) → length bs / 12 < n → false ≡ (many number n).ok (words bs)
numbers_outside bs n h = go ((many number n).ok (words bs)) refl
  where
    go : (t : Bool) → (many number n).ok (words bs) ≡ t → false ≡ t
    go true e =
        let z : ⊥ = omega (arith, (fixed_numbers n).long (words bs) e, length_words bs) in
        absurd z
    go false e = refl

-- ---- a field of bytes

-- q full words, then r bytes
field_split : (q r : ℕ) (us : List ℕ) → field_ok (q * 3 + r) us ≡ field_ok (q * 3) us && field_ok r (drop q us)
field_split zero r us = ap (λ n. field_ok n us) (zero-add r)
field_split (suc q) r us =
    let a : suc q * 3 + r ≡ suc (suc (suc (q * 3 + r))) = omega arith in
    let b : suc q * 3 ≡ suc (suc (suc (q * 3))) = omega arith in
    let c : 1 + q ≡ suc q = omega arith in
    let first = is_three_bytes (slice_index us 0) in
    let middle = field_ok (q * 3) (drop 1 us) in
    let d = drop-drop q 1 us ∙ ap (λ n. drop n us) c in
    rw (a, b)
    (ap (λ t. first && t) (field_split q r (drop 1 us) ∙ ap (λ vs. middle && field_ok r vs) d)
    ∙ and_assoc first middle (field_ok r (drop (suc q) us)))

triples_step : (i : ℕ) (us : List ℕ) → field_ok (suc i * 3) us
    ≡ field_ok (i * 3) us && is_three_bytes (slice_index us i)
triples_step i us =
    let a : suc i * 3 ≡ i * 3 + 3 = omega arith in
    let one = and_true (is_three_bytes (slice_index (drop i us) 0)) ∙ ap is_three_bytes (get_d_at i us) in
    ap (λ n. field_ok n us) a ∙ field_split i 3 us ∙ ap (λ t. field_ok (i * 3) us && t) one

pub triples_and : (ws : List ℕ) (i w : ℕ) (g r s : Bool) → g ≡ field_ok (i * 3) ws → w ≡ slice_index ws i
    → r ≡ is_word 6 (2 ^ 24) w → s ≡ g && r → s ≡ field_ok ((i + 1) * 3) ws
triples_and ws i w g r s h p e a =
    let there : r ≡ is_three_bytes (slice_index ws i) = e ∙ ap is_three_bytes p in
    rw add-one (a ∙ (λ j. h j && there j) ∙ sym (triples_step i ws))

-- of words that do not lie within the file, the last is 0, which is of no kind
pub triples_outside : (bs : List ℕ) (n : ℕ) → length bs / 4 < n → false ≡ field_ok (n * 3) (words bs)
triples_outside bs zero h =
    let z : ⊥ = omega arith in
    absurd z
triples_outside bs (suc n) h =
    let us = words bs in
    let behind : length us ≤ n = omega (arith, length_words bs) in
    let none : slice_index_or us n 0 ≡ 0 = get_or-eq_default us 0 behind in
    let no : is_three_bytes (slice_index us n) ≡ false = ap is_three_bytes none in
    sym (triples_step n us ∙ and_false (field_ok (n * 3) us) (is_three_bytes (slice_index us n)) no)

-- the padding of a word with two bytes, and with one
one_zero : (w : ℕ) → (w % 256 == 0) ≡ (third w == 0)
one_zero w =
    let e : w % 256 ≡ third w = omega arith in
    rw e

two_zeros : (w : ℕ) → (w % 65536 == 0) ≡ (second w == 0) && third w == 0
two_zeros w = same_test (w % 65536 == 0) (second w == 0 && third w == 0) there back
  where
    there : nat_eq (w % 65536) 0 ≡ true → (second w == 0) && (third w == 0) ≡ true
    there e =
        let z : w % 65536 ≡ 0 = eqb-true _ _ e in
        let a : second w ≡ 0 = omega arith in
        let b : third w ≡ 0 = omega arith in
        join (eq-eqb _ _ a) (eq-eqb _ _ b)

    back : nat_eq (second w) 0 && (third w == 0) ≡ true → (w % 65536 == 0) ≡ true
    back e =
        let s = both (second w == 0) (third w == 0) e in
        let a : second w ≡ 0 = eqb-true _ _ s.0 in
        let b : third w ≡ 0 = eqb-true _ _ s.1 in
        let z : w % 65536 ≡ 0 = omega arith in
        eq-eqb _ _ z

module _ (ws : List ℕ) (n : ℕ) (front : Bool) (f : front ≡ field_ok (n / 3 * 3) ws) where
  -- the full words, and the bytes that are left
  split_at : (r : ℕ) → n % 3 ≡ r → field_ok n ws ≡ front && field_ok r (drop (n / 3) ws)
  split_at r e =
      let q : n ≡ n / 3 * 3 + r = omega arith in
      ap (λ m. field_ok m ws) q
      ∙ field_split (n / 3) r ws
      ∙ ap (λ t. t && field_ok r (drop (n / 3) ws)) (sym f)

  pub field_full : n % 3 ≡ 0 → front ≡ (field n).ok ws
  unfolding field
  field_full e = sym (split_at 0 e ∙ and_true front)

  module _ (w : ℕ) (kind s r : Bool) (p : w ≡ slice_index ws (n / 3)) (e : kind ≡ is_word 6 (2 ^ 24) w) where
    last_there : slice_index_or (drop (n / 3) ws) 0 0 ≡ w
    last_there = get_d_at (n / 3) ws ∙ sym p

    pub field_one_left : n % 3 ≡ 1 → s ≡ kind && (w % 65536 == 0) → r ≡ front && s → r ≡ (field n).ok ws
    unfolding field
    field_one_left g h j =
        let padded : ℕ → Bool = λ x. is_three_bytes x && (second x == 0 && third x == 0) in
        j
        ∙ ap (λ t. front && t) (h ∙ (λ i. e i && two_zeros w i) ∙ ap padded (sym last_there))
        ∙ sym (split_at 1 g)

    pub field_two_left : (n % 3 ≢ 0) → (n % 3 ≢ 1) → s ≡ kind && (w % 256 == 0) → r ≡ front && s
        → r ≡ (field n).ok ws
    unfolding field
    field_two_left a b h j =
        let g : n % 3 ≡ 2 = omega arith in
        let padded : ℕ → Bool = λ x. is_three_bytes x && nat_eq (third x) 0 in
        j
        ∙ ap (λ t. front && t) (h ∙ (λ i. e i && one_zero w i) ∙ ap padded (sym last_there))
        ∙ sym (split_at 2 g)

-- ---- the end word

pub sum_more : (bs : List ℕ) (i s w r : ℕ) → i < length bs / 4 → s ≡ wrapping_sum (take i (words bs))
    → w ≡ slice_index (words bs) i → r ≡ (s + w) % 2 ^ 32 → r ≡ wrapping_sum (take (i + 1) (words bs))
sum_more bs i s w r h p q e =
    rw add-one
    (e ∙ (λ j. (p j + q j) % 2 ^ 32) ∙ sum_step (words bs) i (omega (arith, length_words bs)))

pub ends_not : (ws rs : List ℕ) → (length rs / 4 ≢ 1) → false ≡ ends ws (words rs)
ends_not ws rs h =
    let n : length (words rs) ≡ 1 → ⊥ = λ q. h (omega (arith, length_words rs)) in
    rw (ne_eqb _ _ n)

pub ends_so : (bs rs : List ℕ) (e w s : ℕ) → length rs / 4 ≡ 1 → e ≡ length bs / 4 - 1 → w ≡ slice_index (words rs) 0
    → s ≡ wrapping_sum (take e (words bs)) → (w == 0x80000000 + s % 0x10000000) ≡ ends (words bs) (words rs)
ends_so bs rs e w s h b p q =
    let n : length (words rs) ≡ 1 = omega (arith, length_words rs) in
    let l : length (words bs) - 1 ≡ e = omega (arith, length_words bs) in
    rw (n, l, p, q)
