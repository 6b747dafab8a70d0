-- The facts that the reads of a field's bytes are proved by.
use Rattle.std.specs.Prelude.{◌≡◌, refl, Bool, true, false, List, [], ◌∷◌, ◌++◌, ℕ, zero, suc, ◌+◌, ◌*◌, ◌/◌, ◌%◌, ◌^◌}
use Rattle.std.specs.Prelude.{◌≤◌, ◌<◌, eqb, ltb, length, take, drop}
use Rattle.std.proofs.Math.Path.{sym}
use Rattle.std.proofs.Common.{ap, ◌∙◌, append-nil, append_assoc, add-one, zero-add, length-take-le, drop_of_length-le}
use Rattle.std.proofs.Common.{drop-drop, drop-cons, drop_at, get_or-drop, take_all, take_at}
use native.Mathlib.Omega.{arith}
use borrow.Author.Tests.{ltb-true, ltb-false}
use Rattle.std.proofs.Math.ListN.{get_or, get_or-eq_default}
use Rattle.std.proofs.Math.Seq.{paste, take-add}
use borrow.Rule.Slice.PartMut.{put_mid}
use Rattle.lists.specs.Base.{when◌then◌else◌}
use Rattle.lists.specs.Laws.{both}
use Rattle.file_format.specs.Words.{words, payload}
use Rattle.file_format.specs.Fields.{field, field_ok, is_three_bytes, first, second, third}
use Rattle.file_format.proofs.FieldsLaws.{field_only, impossible}
use Rattle.file_format.proofs.PlacesLaws.{field_at, length_words, word_at}

-- ---- the first j bytes of s stand at the start of m, and behind them m holds what l holds

at_start : (l s : List ℕ) (j : ℕ) → paste l 0 s j ≡ take j s ++ drop j l
at_start l s j = ap (λ q. take j s ++ drop q l) (zero-add j)

-- w more, from j on
pub put_more : (l s m ys : List ℕ) (j w i : ℕ) → j ≤ length s → m ≡ paste l 0 s j → ys ≡ take w (drop j s) → j + w ≡ i
    → put_mid j w m ys ≡ paste l 0 s i
put_more l s m ys j w i h e p q =
    let held = e ∙ at_start l s j in
    let size : length (take j s) ≡ j = length-take-le j s h in
    let front : take j m ≡ take j s = ap (take j) held ∙ take_at (take j s) (drop j l) j size in
    let rest : drop j m ≡ drop j l = ap (drop j) held ∙ drop_at (take j s) (drop j l) j size in
    let part = take w (drop j s) in
    (λ n. front n ++ (p n ++ drop w (rest n)))
    ∙ ap (λ r. take j s ++ (part ++ r)) (drop-drop w j l)
    ∙ sym (append_assoc (take j s) part (drop (j + w) l))
    ∙ ap (λ r. r ++ drop (j + w) l) (sym (take-add j w s))
    ∙ ap (λ n. take n s ++ drop n l) q
    ∙ sym (at_start l s i)

-- all bytes of s were put
pub put_all : (l s m : List ℕ) (n : ℕ) → length l ≤ n → length s ≤ n → m ≡ paste l 0 s n → m ≡ s
put_all l s m n h g e =
    e
    ∙ at_start l s n
    ∙ ap (λ r. take n s ++ r) (drop_of_length-le l {i = n} h)
    ∙ append-nil (take n s)
    ∙ take_all n s g

one_more : (s : List ℕ) (j r x : ℕ) (ys : List ℕ) → j < length s → x ≡ get_or s j 0 → ys ≡ take r (drop (j + 1) s)
    → x ∷ ys ≡ take (suc r) (drop j s)
one_more s j r x ys h e p = (λ i. e i ∷ p i) ∙ rw add-one (sym (ap (take (suc r)) (drop-cons s j 0 h)))

-- ---- the words of a field that was judged good

field_word : (n i : ℕ) (us : List ℕ) → i * 3 < n → field_ok n us ≡ true → is_three_bytes (get_or us i 0) ≡ true
field_word zero i us h e = let z : ⊥ = omega arith in absurd z
field_word (suc zero) zero us h e = (both (is_three_bytes (get_or us 0 0)) _ e).0
field_word (suc zero) (suc i) us h e = let z : ⊥ = omega arith in absurd z
field_word (suc (suc zero)) zero us h e = (both (is_three_bytes (get_or us 0 0)) _ e).0
field_word (suc (suc zero)) (suc i) us h e = let z : ⊥ = omega arith in absurd z
field_word (suc (suc (suc n))) zero us h e = (both (is_three_bytes (get_or us 0 0)) _ e).0
field_word (suc (suc (suc n))) (suc i) us h e =
    let more = (both (is_three_bytes (get_or us 0 0)) (field_ok n (drop 1 us)) e).1 in
    let q : 1 + i ≡ suc i = omega arith in
    rw (get_or-drop, q) at (field_word n i (drop 1 us) (omega arith) more)

module _ (bs : List ℕ) (n : ℕ) (e : (field n).ok (words bs) ≡ true) where
  abbrev us : List ℕ
  us = words bs

  pub field_size : length ((field n).value us) ≡ n
  unfolding field
  field_size = (field_only n us e).0

  module _ (i : ℕ) (h : i * 3 < n) where
    three : is_three_bytes (get_or us i 0) ≡ true
    unfolding field
    three = field_word n i us h e

    -- word i is there
    pub field_inside : i < length bs / 4
    field_inside = go (ltb i (length bs / 4)) refl
      where
        go : (t : Bool) → ltb i (length bs / 4) ≡ t → i < length bs / 4
        go true p = ltb-true _ _ p
        go false p =
            let l : length bs / 4 ≤ i = ltb-false _ _ p in
            let behind : length us ≤ i = omega (arith, length_words bs) in
            let none : get_or us i 0 ≡ 0 = get_or-eq_default us 0 behind in
            impossible (sym (ap is_three_bytes none) ∙ three)

    -- its bytes, as the file has them
    abbrev at : ℕ
    at = i * 4

    module _ (small : (q : ℕ) → get_or bs q 0 < 256) where
      the_word : get_or us i 0
          ≡ get_or bs at 0 + get_or bs (at + 1) 0 * 256 + get_or bs (at + 2) 0 * 65536 + get_or bs (at + 3) 0 * 16777216
      the_word = word_at bs i field_inside

      first_byte : get_or bs (at + 2) 0 ≡ get_or ((field n).value us) (i * 3) 0
      unfolding field when◌then◌else◌
      first_byte =
          let w = get_or us i 0 in
          let a = small at in
          let b = small (at + 1) in
          let c = small (at + 2) in
          let m = ltb-true (payload w) (2 ^ 24) (both (eqb (w / 2 ^ 28) 6) (ltb (payload w) (2 ^ 24)) three).1 in
          let p : i * 3 / 3 ≡ i = omega arith in
          let q : i * 3 % 3 ≡ 0 = omega arith in
          let x : get_or bs (at + 2) 0 ≡ first w = omega (arith, the_word) in
          x ∙ sym (field_at n (i * 3) us h ∙ (rw (q, p)))

      second_byte : i * 3 + 1 < n → get_or bs (at + 1) 0 ≡ get_or ((field n).value us) (i * 3 + 1) 0
      unfolding field when◌then◌else◌
      second_byte l =
          let w = get_or us i 0 in
          let a = small at in
          let b = small (at + 1) in
          let p : (i * 3 + 1) / 3 ≡ i = omega arith in
          let q : (i * 3 + 1) % 3 ≡ 1 = omega arith in
          let x : get_or bs (at + 1) 0 ≡ second w = omega (arith, the_word) in
          x ∙ sym (field_at n (i * 3 + 1) us l ∙ (rw (q, p)))

      third_byte : i * 3 + 2 < n → get_or bs at 0 ≡ get_or ((field n).value us) (i * 3 + 2) 0
      unfolding field when◌then◌else◌
      third_byte l =
          let w = get_or us i 0 in
          let a = small at in
          let p : (i * 3 + 2) / 3 ≡ i = omega arith in
          let q : (i * 3 + 2) % 3 ≡ 2 = omega arith in
          let x : get_or bs at 0 ≡ third w = omega (arith, the_word) in
          x ∙ sym (field_at n (i * 3 + 2) us l ∙ (rw (q, p)))

      -- the first r of them are those of the field
      pub word_bytes : (r : ℕ) → i * 3 + r ≤ n → r ≤ 3
          → take r (get_or bs (at + 2) 0 ∷ get_or bs (at + 1) 0 ∷ get_or bs at 0 ∷ [])
          ≡ take r (drop (i * 3) ((field n).value us))
      word_bytes zero g l = refl
      word_bytes (suc zero) g l =
          let long = field_size in
          one_more ((field n).value us) (i * 3) 0 _ [] (omega arith) first_byte refl
      word_bytes (suc (suc zero)) g l =
          let long = field_size in
          let s = (field n).value us in
          one_more s (i * 3) 1 _ _ (omega arith) first_byte
          (one_more s (i * 3 + 1) 0 _ [] (omega arith) (second_byte (omega arith)) refl)
      word_bytes (suc (suc (suc zero))) g l =
          let long = field_size in
          let s = (field n).value us in
          let q : i * 3 + 2 ≡ i * 3 + 1 + 1 = omega arith in
          one_more s (i * 3) 2 _ _ (omega arith) first_byte
          (one_more s (i * 3 + 1) 1 _ _ (omega arith) (second_byte (omega arith))
          (one_more s (i * 3 + 1 + 1) 0 _ [] (omega arith) (rw q at (third_byte (omega arith))) refl))
      word_bytes (suc (suc (suc (suc r)))) g l = let z : ⊥ = omega arith in absurd z
