-- The facts that the stores of fields are proved by, and that their callers join them by.
use Rattle.std.specs.Prelude.{◌≡◌, refl, Bool, true, false, List, [], ◌∷◌, ◌++◌, get_or, take, drop}
use Rattle.std.proofs.Math.Path.{sym, ap}
use Rattle.std.proofs.Common.{◌∙◌, append_assoc, append-nil, mul-le-mul_right, add-one, take-append-drop, take_at}
use Rattle.std.proofs.Common.{drop-drop}
use Prim.Native.Nat.{ℕ, zero, suc, ◌+◌, ◌*◌, ◌/◌, ◌%◌, ◌^◌, ◌≤◌, ◌<◌}
use native.Mathlib.Omega.{arith}
use Rattle.std.proofs.Math.ListN.{length, length-append}
use Rattle.std.specs.Int.{w32, from_bool, to_le_bytes}
use borrow.Rule.Slice.PartMut.{put_mid}
use Rattle.tables.specs.Rows.{rows, rows_snoc, rows_getD, rows_ext}
use Rattle.file_format.specs.Words.{word, words, bytes, end_word, with_end}
use Rattle.file_format.specs.Fields.{number, flag, three_bytes, field_words, each}
use Rattle.file_format.specs.Calls.{signature}
use Rattle.file_format.specs.Answers.{over}
use Rattle.file_format.proofs.FileLaws.{words_front, length_bytes}
use Rattle.file_format.specs.PutLaws.{put}
use Rattle.file_format.proofs.PutLaws.{put_put, length_put}

-- ---- one group of words behind another

pub put_none : (out : List ℕ) (k : ℕ) → out ≡ put out k []
unfolding put
put_none out k =
    let e : k * 4 + 0 * 4 ≡ k * 4 = omega arith in
    sym (ap (λ n. take (k * 4) out ++ drop n out) e ∙ take-append-drop (k * 4) out)

-- the words us at word p, right behind the words ws
pub put_next : (out mid last : List ℕ) (k p : ℕ) (ws us : List ℕ)
    → mid ≡ put out k ws → last ≡ put mid p us → p ≡ k + length ws → (p + length us) * 4 ≤ length out
    → last ≡ put out k (ws ++ us)
put_next out mid last k p ws us e f g h =
    let q = put_put out k ws us (omega arith) in
    f ∙ (λ j. put (e j) (g j) us) ∙ q

-- a store of words leaves the buffer's length
pub put_length : (out last : List ℕ) (k : ℕ) (ws : List ℕ) → last ≡ put out k ws → (k + length ws) * 4 ≤ length out
    → length last ≡ length out
put_length out last k ws e h = ap length e ∙ length_put out k ws h

-- ---- one word, and a number

-- the bytes of a word in their place
pub word_put : (out bs : List ℕ) (k w n : ℕ) → n ≡ 4 → w < 2 ^ 32 → bs ≡ to_le_bytes w32 w
    → put_mid (k * 4) n out bs ≡ put out k (w ∷ [])
unfolding put
word_put out bs k w n e h p =
    let b : w / 256 ^ 1 % 256 ≡ w / 256 % 256 = omega arith in
    let c : w / 256 ^ 2 % 256 ≡ w / 256 / 256 % 256 = omega arith in
    let d : w / 256 ^ 3 % 256 ≡ w / 256 / 256 / 256 = omega arith in
    let four : to_le_bytes w32 w ≡ bytes (w ∷ []) = λ j. w % 256 ∷ b j ∷ c j ∷ d j ∷ [] in
    let rest : drop n (drop (k * 4) out) ≡ drop (k * 4 + 4) out = rw e (drop-drop 4 (k * 4) out) in
    let all = p ∙ four in
    λ j. take (k * 4) out ++ (all j ++ rest j)

pub number_put : (out o₁ o₂ o₃ : List ℕ) (k n : ℕ) → (k + 3) * 4 ≤ length out
    → o₁ ≡ put out k ((0x30000000 + n % 0x10000000) ∷ [])
    → o₂ ≡ put o₁ (k + 1) ((0x40000000 + n / 0x10000000 % 0x10000000) ∷ [])
    → o₃ ≡ put o₂ (k + 2) ((0x50000000 + n / 0x10000000 / 0x10000000) ∷ [])
    → o₃ ≡ put out k (number.write n)
unfolding number
number_put out o₁ o₂ o₃ k n h p q r =
    let low = word 3 (n % 2 ^ 28) in
    let middle = word 4 (n / 2 ^ 28 % 2 ^ 28) in
    let top = word 5 (n / 2 ^ 28 / 2 ^ 28) in
    let two = put_next out o₁ o₂ k (k + 1) (low ∷ []) (middle ∷ []) p q refl (omega arith) in
    put_next out o₂ o₃ k (k + 2) (low ∷ middle ∷ []) (top ∷ []) two r refl (omega arith)

-- ---- a flag, and the flag of a good signature

pub flag_put : (out last : List ℕ) (k f : ℕ) → last ≡ put out k ((0x70000000 + f) ∷ [])
    → last ≡ put out k (flag.write f)
unfolding flag
flag_put out last k f e = e

pub signature_put : (out last : List ℕ) (k f : ℕ) (valid : Bool) → f ≡ from_bool valid
    → last ≡ put out k (flag.write f) → last ≡ put out k (signature.write valid)
signature_put out last k f true e p = p ∙ ap (λ n. put out k (flag.write n)) e
signature_put out last k f false e p = p ∙ ap (λ n. put out k (flag.write n)) e

-- ---- a loop over records of m words each

module _ {A : Type 0} (write : A → List ℕ) where
  pub each_append : (xs ys : List A) → each write (xs ++ ys) ≡ each write xs ++ each write ys
  each_append [] ys = refl
  each_append (x ∷ xs) ys =
      ap (λ zs. write x ++ zs) (each_append xs ys) ∙ sym (append_assoc (write x) (each write xs) (each write ys))

  -- one record more
  each_more : (g : ℕ → A) (i : ℕ) → each write (rows (suc i) g) ≡ each write (rows i g) ++ write (g i)
  each_more g i =
      ap (each write) (rows_snoc i g)
      ∙ each_append (rows i g) (g i ∷ [])
      ∙ ap (λ zs. each write (rows i g) ++ zs) (append-nil (write (g i)))

  module _ (m n : ℕ) (g : ℕ → A) (size : (i : ℕ) → i < n → length (write (g i)) ≡ m) where
    pub each_length : (i : ℕ) → i ≤ n → length (each write (rows i g)) ≡ i * m
    unfolding rows
    each_length zero h = omega arith
    each_length (suc i) h =
        let q : suc i * m ≡ i * m + m = omega arith in
        let l = ap length (each_more g i) ∙ length-append (each write (rows i g)) (write (g i)) in
        l ∙ (λ j. each_length i (omega arith) j + size i (omega arith) j) ∙ sym q

    pub put_row : (out mid last : List ℕ) (k i p : ℕ) → i < n → (k + n * m) * 4 ≤ length out → p ≡ k + i * m
        → mid ≡ put out k (each write (rows i g)) → last ≡ put mid p (write (g i))
        → last ≡ put out k (each write (rows (i + 1) g))
    put_row out mid last k i p h room q e f =
        let l = each_length i (omega arith) in
        let s = size i h in
        let more : suc i * m ≤ n * m = mul-le-mul_right m h in
        let a : suc i * m ≡ i * m + m = omega arith in
        rw add-one
        (put_next out mid last k p (each write (rows i g)) (write (g i)) e f (omega arith) (omega arith)
        ∙ ap (put out k) (sym (each_more g i)))

-- ---- numbers

pub number_length : (n : ℕ) → length (number.write n) ≡ 3
unfolding number
number_length n = refl

-- the words of the first i numbers
unfoldable pub first_numbers : List ℕ → ℕ → List ℕ
first_numbers xs i = each number.write (rows i (λ j. get_or xs j 0))

pub numbers_none : (xs out : List ℕ) (k : ℕ) → out ≡ put out k (first_numbers xs 0)
unfolding first_numbers rows
numbers_none xs out k = put_none out k

pub numbers_more : (xs out mid last : List ℕ) (k i : ℕ) → i < length xs → (k + length xs * 3) * 4 ≤ length out
    → mid ≡ put out k (first_numbers xs i) → last ≡ put mid (k + i * 3) (number.write (get_or xs i 0))
    → last ≡ put out k (first_numbers xs (i + 1))
unfolding first_numbers
numbers_more xs out mid last k i h room e f =
    put_row number.write 3 (length xs) (λ j. get_or xs j 0) (λ j p. number_length (get_or xs j 0)) out mid last k i
    (k + i * 3) h room refl e f

pub numbers_done : (xs out last : List ℕ) (k i : ℕ) → i ≤ length xs → length xs ≤ i
    → last ≡ put out k (first_numbers xs i) → last ≡ put out k (each number.write xs)
unfolding first_numbers
numbers_done xs out last k i h l e =
    e ∙ ap (λ ys. put out k (each number.write ys)) (rows_getD xs i 0 (omega arith))

-- ---- a field of bytes

-- word i of a field
unfoldable pub field_word : List ℕ → ℕ → ℕ
field_word xs i = three_bytes (get_or xs (i * 3) 0) (get_or xs (i * 3 + 1) 0) (get_or xs (i * 3 + 2) 0)

pub field_word_made : (xs : List ℕ) (i a b c w : ℕ)
    → a ≡ get_or xs (i * 3) 0 → b ≡ get_or xs (i * 3 + 1) 0 → c ≡ get_or xs (i * 3 + 2) 0 → w ≡ three_bytes a b c
    → w ≡ field_word xs i
unfolding field_word
field_word_made xs i a b c w p q r e = e ∙ (λ j. three_bytes (p j) (q j) (r j))

-- three bytes further on
field_word_later : (a b c : ℕ) (xs : List ℕ) (i : ℕ) → field_word (a ∷ b ∷ c ∷ xs) (suc i) ≡ field_word xs i
unfolding field_word
field_word_later a b c xs i =
    let u : suc i * 3 ≡ suc (suc (suc (i * 3))) = omega arith in
    let v : suc (suc (suc (i * 3))) + 1 ≡ suc (suc (suc (i * 3 + 1))) = omega arith in
    let w : suc (suc (suc (i * 3))) + 2 ≡ suc (suc (suc (i * 3 + 2))) = omega arith in
    rw (u, v, w)

field_by_words : (xs : List ℕ) → rows ((length xs + 2) / 3) (field_word xs) ≡ field_words xs
unfolding rows field_word
field_by_words [] = refl
field_by_words (a ∷ []) = refl
field_by_words (a ∷ b ∷ []) = refl
field_by_words (a ∷ b ∷ c ∷ xs) =
    let n = (length xs + 2) / 3 in
    let e : (length (a ∷ b ∷ c ∷ xs) + 2) / 3 ≡ suc n = omega arith in
    let ys = a ∷ b ∷ c ∷ xs in
    let l = rows_ext n (λ i. field_word ys (suc i)) (field_word xs) (λ i h. field_word_later a b c xs i) in
    ap (λ k. rows k (field_word ys)) e ∙ ap {B = List ℕ} (λ zs. three_bytes a b c ∷ zs) (l ∙ field_by_words xs)

abbrev pub one_word : ℕ → List ℕ
one_word w = w ∷ []

each_one : (ws : List ℕ) → each one_word ws ≡ ws
each_one [] = refl
each_one (w ∷ ws) = ap {B = List ℕ} (λ us. w ∷ us) (each_one ws)

-- the first i words of a field
unfoldable pub first_words : List ℕ → ℕ → List ℕ
first_words xs i = each one_word (rows i (field_word xs))

pub field_none : (xs out : List ℕ) (k : ℕ) → out ≡ put out k (first_words xs 0)
unfolding first_words rows
field_none xs out k = put_none out k

pub field_more : (xs out mid last : List ℕ) (k i w : ℕ) → i < (length xs + 2) / 3
    → (k + (length xs + 2) / 3) * 4 ≤ length out → w ≡ field_word xs i
    → mid ≡ put out k (first_words xs i) → last ≡ put mid (k + i) (w ∷ [])
    → last ≡ put out k (first_words xs (i + 1))
unfolding first_words
field_more xs out mid last k i w h room t e f =
    let n = (length xs + 2) / 3 in
    put_row one_word 1 n (field_word xs) (λ j r. refl) out mid last k i (k + i) h (omega arith) (omega arith) e
    (f ∙ ap (λ x. put mid (k + i) (x ∷ [])) t)

pub field_done : (xs out last : List ℕ) (k i : ℕ) → i ≤ (length xs + 2) / 3 → (length xs + 2) / 3 ≤ i
    → last ≡ put out k (first_words xs i) → last ≡ put out k (field_words xs)
unfolding first_words
field_done xs out last k i h l f =
    let q : i ≡ (length xs + 2) / 3 = omega arith in
    f
    ∙ ap (put out k) (each_one (rows i (field_word xs)) ∙ ap (λ m. rows m (field_word xs)) q ∙ field_by_words xs)

-- ---- the end word

-- the words before the end word are those that were put
words_put : (out : List ℕ) (ws : List ℕ) (n : ℕ) → n ≡ length ws → take n (words (put out 0 ws)) ≡ ws
unfolding put
words_put out ws n e =
    let rest = drop (0 * 4 + length ws * 4) out in
    ap (take n) (words_front ws rest) ∙ take_at ws (words rest) n (sym e)

-- the end word closes the words that were put
pub put_closed : (out mid last : List ℕ) (ws : List ℕ) (n : ℕ) → mid ≡ put out 0 ws → n ≡ length ws
    → last ≡ put mid n (end_word (take n (words mid)) ∷ []) → (n + 1) * 4 ≤ length out
    → last ≡ put out 0 (with_end ws)
put_closed out mid last ws n e l f h =
    let w = ap end_word (ap (λ o. take n (words o)) e ∙ words_put out ws n l) in
    put_next out mid last 0 n ws (end_word ws ∷ []) e (f ∙ ap (λ x. put mid n (x ∷ [])) w) (omega arith)
    (omega arith)

-- words from the start of the buffer on are a file at its start
pub put_over : (out ws : List ℕ) → put out 0 ws ≡ over (bytes ws) out
unfolding put
put_over out ws =
    let e : 0 * 4 + length ws * 4 ≡ length (bytes ws) = omega (arith, length_bytes ws) in
    ap (λ n. bytes ws ++ drop n out) e
