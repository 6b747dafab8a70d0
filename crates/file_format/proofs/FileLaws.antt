-- The laws of whole files, for any format whose laws hold.
use Rattle.std.specs.Prelude.{◌≡◌, Bool, ◌&&◌, ℕ, suc, ◌+◌, ◌-◌, ◌*◌, ◌/◌, ◌%◌, ◌^◌, ◌<◌, eqb}
use Rattle.std.proofs.Math.Path.{refl, sym, ap}
use Rattle.std.proofs.Common.{◌∙◌, arith, length-append, take_at}
use Rattle.std.proofs.Math.Bool.{true, false}
use mathlib.Core.List.{List, [], ◌∷◌, ◌++◌, append-nil}
use Rattle.std.proofs.Math.Option.{some, none}
use Rattle.std.proofs.Math.ListN.{length, get_or, take}
use borrow.Author.Tests.{ltb-true, eqb-true, eq-eqb, lt-ltb}
use Rattle.lists.specs.Base.{when◌then◌else◌, every}
use Rattle.lists.specs.Laws.{both, join, every_append, if_true}
use Rattle.file_format.specs.Words.{wrapping_sum, end_word, with_end, is_byte, bytes, words}
use Rattle.file_format.specs.Fields.{Format}
use Rattle.file_format.specs.File.{write_file, file_ok, read_file}
use Rattle.file_format.proofs.FieldsLaws.{fits, Lawful, word_fits}

-- ---- bytes and words

pub words_front : (ws rest : List ℕ) → words (bytes ws ++ rest) ≡ ws ++ words rest
words_front [] rest = refl
words_front (w ∷ ws) rest =
    let a = w % 256 in
    let b = w / 256 % 256 in
    let c = w / 256 / 256 % 256 in
    let d = w / 256 / 256 / 256 in
    let e : a + b * 256 + c * 65536 + d * 16777216 ≡ w = omega arith in
    λ i. e i ∷ words_front ws rest i

pub words_bytes : (ws : List ℕ) → words (bytes ws) ≡ ws
words_bytes ws = ap words (sym (append-nil (bytes ws))) ∙ words_front ws [] ∙ append-nil ws

pub length_bytes : (ws : List ℕ) → length (bytes ws) ≡ 4 * length ws
length_bytes [] = refl
length_bytes (w ∷ ws) = omega (arith, length_bytes ws)

-- what the type of a lent slice of bytes says
pub bytes_known : (xs : List ℕ) → ((i : ℕ) → get_or xs i 0 < 256) → every is_byte xs ≡ true
bytes_known [] h = refl
bytes_known (x ∷ xs) h = join (lt-ltb x 256 (h 0)) (bytes_known xs (λ i. h (suc i)))

pub bytes_small : (ws : List ℕ) → every fits ws ≡ true → every is_byte (bytes ws) ≡ true
bytes_small [] e = refl
bytes_small (w ∷ ws) e =
    let s = both (fits w) (every fits ws) e in
    let h : w < 2 ^ 32 = ltb-true _ _ s.0 in
    let a : w % 256 < 256 = omega arith in
    let b : w / 256 % 256 < 256 = omega arith in
    let c : w / 256 / 256 % 256 < 256 = omega arith in
    let d : w / 256 / 256 / 256 < 256 = omega arith in
    join (lt-ltb _ _ a)
    (join (lt-ltb _ _ b) (join (lt-ltb _ _ c) (join (lt-ltb _ _ d) (bytes_small ws s.1))))

pub bytes_words : (bs : List ℕ) → length bs % 4 ≡ 0 → every is_byte bs ≡ true → bytes (words bs) ≡ bs
bytes_words [] h e = refl
bytes_words (a ∷ []) h e = let z : ⊥ = omega arith in absurd z
bytes_words (a ∷ b ∷ []) h e = let z : ⊥ = omega arith in absurd z
bytes_words (a ∷ b ∷ c ∷ []) h e = let z : ⊥ = omega arith in absurd z
bytes_words (a ∷ b ∷ c ∷ d ∷ bs) h e =
    let p = both (is_byte a) (is_byte b && (is_byte c && (is_byte d && every is_byte bs))) e in
    let q = both (is_byte b) (is_byte c && (is_byte d && every is_byte bs)) p.1 in
    let r = both (is_byte c) (is_byte d && every is_byte bs) q.1 in
    let s = both (is_byte d) (every is_byte bs) r.1 in
    let x : a < 256 = ltb-true _ _ p.0 in
    let y : b < 256 = ltb-true _ _ q.0 in
    let z : c < 256 = ltb-true _ _ r.0 in
    let w = a + b * 256 + c * 65536 + d * 16777216 in
    let e₁ : w / 256 ≡ b + c * 256 + d * 65536 = omega arith in
    let e₂ : w / 256 / 256 ≡ c + d * 256 = omega arith in
    let e₃ : w / 256 / 256 / 256 ≡ d = omega arith in
    let f₀ : w % 256 ≡ a = omega arith in
    let f₁ : w / 256 % 256 ≡ b = omega arith in
    let f₂ : w / 256 / 256 % 256 ≡ c = omega arith in
    λ i. f₀ i ∷ f₁ i ∷ f₂ i ∷ e₃ i ∷ bytes_words bs (omega arith) s.1 i

-- ---- the end word

end_fits : (ws : List ℕ) → fits (end_word ws) ≡ true
end_fits ws =
    let h : wrapping_sum ws % 2 ^ 28 < 2 ^ 28 = omega arith in
    word_fits 8 (wrapping_sum ws % 2 ^ 28) (omega arith) h

-- the words before the last
before_last : (ws : List ℕ) (e : ℕ) → take (length (ws ++ (e ∷ [])) - 1) (ws ++ (e ∷ [])) ≡ ws
before_last ws e = take_at ws (e ∷ []) (length (ws ++ (e ∷ [])) - 1) (simp length-append (omega arith))

one_left : (rest : List ℕ) → length rest ≡ 1 → rest ≡ get_or rest 0 0 ∷ []
one_left [] e = let z : ⊥ = omega arith in absurd z
one_left (x ∷ []) e = refl
one_left (x ∷ y ∷ rest) e = let z : ⊥ = omega arith in absurd z

-- ---- a whole file

module _ {A : Type 0} where
  pub some_same : {x y : A} → some x ≡ some y → x ≡ y
  some_same e = cc

  pub some_not_none {ℓ} : {x : A} {B : Type ℓ} → some x ≡ none → B
  some_not_none e =
      let z : ◌≡◌ {A = ℕ} 0 1 = cc in
      let y : ⊥ = omega arith in
      absurd y

module _ {A : Type 0} {F : Format A} (f : Lawful F) where
  -- what is written is a list of bytes
  pub written_bytes : (a : A) → F.domain a ≡ true → every is_byte (write_file F a) ≡ true
  unfolding write_file
  written_bytes a e =
      let us = F.write a in
      bytes_small (with_end us)
      (every_append fits us (end_word us ∷ []) (f.kept a e).small (join (end_fits us) refl))

  -- what is written is read
  pub written_ok : (a : A) → F.domain a ≡ true → file_ok F (write_file F a) ≡ true
  unfolding file_ok write_file
  written_ok a e =
      let us = F.write a in
      let k = f.kept a e in
      let end = end_word us ∷ [] in
      let l : length (bytes (with_end us)) % 4 ≡ 0 = omega (arith, length_bytes (with_end us)) in
      rw (words_bytes (with_end us), l, k.ok end, k.rest end, before_last us (end_word us))
      (eq-eqb (end_word us) (end_word us) refl)

  pub read_written : (a : A) → F.domain a ≡ true → read_file F (write_file F a) ≡ some a
  unfolding read_file write_file
  read_written a e =
      let us = F.write a in
      if_true _ _ _ (written_ok a e)
      ∙ ap some (ap F.value (words_bytes (with_end us)) ∙ (f.kept a e).value (end_word us ∷ []))

  -- only what is written is read
  pub ok_written : (bs : List ℕ) → every is_byte bs ≡ true → file_ok F bs ≡ true
      → let a = F.value (words bs) in
      (F.domain a ≡ true) × (bs ≡ write_file F a)
  unfolding file_ok write_file
  ok_written bs h e =
      let ws = words bs in
      let p = both (eqb (length bs % 4) 0) _ e in
      let q = both (F.ok ws) _ p.1 in
      let r = both (eqb (length (F.rest ws)) 1) _ q.1 in
      let o = f.only ws q.0 in
      let us = F.write (F.value ws) in
      let last = get_or (F.rest ws) 0 0 in
      let g : ws ≡ us ++ (last ∷ []) =
      o.same ∙ ap (λ xs. us ++ xs) (one_left (F.rest ws) (eqb-true _ _ r.0)) in
      let t : take (length ws - 1) ws ≡ us =
      ap (λ xs. take (length xs - 1) xs) g ∙ before_last us last in
      let k : last ≡ end_word us = eqb-true _ _ r.1 ∙ ap end_word t in
      let b : bytes ws ≡ bs = bytes_words bs (eqb-true _ _ p.0) h in
      (o.domain, sym b ∙ ap bytes (g ∙ ap (λ x. us ++ (x ∷ [])) k))

  -- a file is read where it is ok
  read_ok : (bs : List ℕ) (a : A) → read_file F bs ≡ some a → (file_ok F bs ≡ true) × (F.value (words bs) ≡ a)
  unfolding read_file when◌then◌else◌
  read_ok bs a e = go (file_ok F bs) refl e
    where
      go : (t : Bool) → file_ok F bs ≡ t → (when t then some (F.value (words bs)) else none) ≡ some a
          → (file_ok F bs ≡ true) × (F.value (words bs) ≡ a)
      go true p q = (p, some_same q)
      go false p q = some_not_none (sym q)

  pub read_only_written : (bs : List ℕ) (a : A) → every is_byte bs ≡ true → read_file F bs ≡ some a
      → (F.domain a ≡ true) × (bs ≡ write_file F a)
  read_only_written bs a h e =
      let r = read_ok bs a e in
      let o = ok_written bs h r.0 in
      let q = r.1 in
      (ap F.domain (sym q) ∙ o.0, o.1 ∙ ap (write_file F) q)

  -- two files that read to the same are the same
  pub same_file : (bs cs : List ℕ) (a : A) → every is_byte bs ≡ true → every is_byte cs ≡ true
      → read_file F bs ≡ some a → read_file F cs ≡ some a → bs ≡ cs
  same_file bs cs a h g p q = (read_only_written bs a h p).1 ∙ sym (read_only_written cs a g q).1

  -- what is refused was not written
  pub refused_unwritten : (bs : List ℕ) → read_file F bs ≡ none → (a : A) → F.domain a ≡ true → write_file F a ≡ bs → ⊥
  refused_unwritten bs r a e w = some_not_none (sym (read_written a e) ∙ ap (read_file F) w ∙ r)

  -- and what was not written is refused
  pub unwritten_refused : (bs : List ℕ) → every is_byte bs ≡ true
      → ((a : A) → F.domain a ≡ true → write_file F a ≡ bs → ⊥) → read_file F bs ≡ none
  unfolding read_file when◌then◌else◌
  unwritten_refused bs h n = go (file_ok F bs) refl
    where
      go : (t : Bool) → file_ok F bs ≡ t → (when t then some (F.value (words bs)) else none) ≡ none
      go true p =
          let o = ok_written bs h p in
          absurd (n (F.value (words bs)) o.0 (sym o.1))
      go false p = refl
