-- A buffer that begins with a calls file, and the words of that file with one call more.
use Rattle.std.specs.Prelude.{◌≡◌, Bool, true, false, ℕ, ◌+◌, ◌-◌, ◌*◌, ◌/◌, ◌≤◌, ◌<◌, ltb, eqb}
use Rattle.std.proofs.Math.Path.{refl, sym, ap}
use Rattle.std.proofs.Common.{◌∙◌, take-append-drop}
use mathlib.Core.List.{List, [], ◌∷◌, ◌++◌, append-nil}
use Rattle.std.proofs.Math.Option.{some, none}
use native.Mathlib.Omega.{arith}
use Rattle.std.proofs.Math.ListN.{length, take, drop, length-append}
use Rattle.std.proofs.Math.Seq.{take_at, take-append-le, length-take-le}
use borrow.Author.Tests.{ltb-true, lt-ltb, le-ltb, eq-eqb}
use Rattle.lists.specs.Base.{every}
use Rattle.lists.specs.Laws.{both, join, if_true, if_false, and_false, every_append_one, every_take}
use Rattle.rules.specs.Calls.{Operation}
use Rattle.file_format.specs.Words.{word, calls_head, end_word, with_end, is_byte, bytes, words}
use Rattle.file_format.specs.Fields.{each, many}
use Rattle.file_format.specs.Calls.{call, calls_limit, calls_format, calls_writable}
use Rattle.file_format.specs.File.{write_file, file_ok, read_file, write_calls, read_calls}
use Rattle.file_format.specs.Places.{count_at}
use Rattle.file_format.specs.Answers.{one_more}
use Rattle.file_format.proofs.FieldsLaws.{word_kept}
use Rattle.file_format.proofs.CallsLaws.{calls_format_lawful}
use Rattle.file_format.proofs.FileLaws.{words_bytes, length_bytes, ok_written}
use Rattle.file_format.specs.PutLaws.{put}
use Rattle.file_format.proofs.PutLaws.{bytes_append}
use Rattle.file_stores.specs.Laws.{each_append}

-- ---- the words of a file, and of the file with one call more

module _ (os : List Operation) where
  pub calls_words : calls_format.write os ≡ word 1 calls_head ∷ word 2 (length os) ∷ each call.write os
  unfolding calls_format many
  calls_words = refl

  pub file_length : length (write_calls os) ≡ (length (calls_format.write os) + 1) * 4
  unfolding write_file
  file_length =
      let us = calls_format.write os in
      omega (arith, length_bytes (with_end us), length-append us (end_word us ∷ []))

module _ (os : List Operation) where
  pub held_few : calls_writable os ≡ true → length os < calls_limit
  unfolding calls_format
  held_few e = ltb-true _ _ (both (ltb (length os) calls_limit) _ e).0

  module _ (o : Operation) where
    more_length : length (one_more os o) ≡ length os + 1
    more_length = omega (arith, length-append os (o ∷ []))

    pub more_words : calls_format.write (one_more os o)
        ≡ word 1 calls_head ∷ word 2 (length os + 1) ∷ (each call.write os ++ call.write o)
    more_words =
        let e =
        each_append call.write os (o ∷ [])
        ∙ ap (λ ws. each call.write os ++ ws) (append-nil (call.write o)) in
        calls_words (one_more os o) ∙ (λ j. word 1 calls_head ∷ word 2 (more_length j) ∷ e j)

    pub more_file_length : length (write_calls (one_more os o))
        ≡ length (write_calls os) + length (call.write o) * 4
    more_file_length =
        omega (
          arith,
          file_length os,
          file_length (one_more os o),
          ap length (calls_words os),
          ap length more_words,
          length-append (each call.write os) (call.write o),
        )

    pub more_writable : calls_writable os ≡ true → call.domain o ≡ true → length os < 9_999
        → calls_writable (one_more os o) ≡ true
    unfolding calls_format many
    more_writable e d h =
        let s = both (ltb (length os) calls_limit) _ e in
        let t = both (eqb (length os) (length os)) (every call.domain os) s.1 in
        let few : length (one_more os o) < calls_limit = omega (arith, more_length) in
        join (lt-ltb _ _ few)
        (join (eq-eqb (length (one_more os o)) (length (one_more os o)) refl)
        (every_append_one call.domain os o t.1 ∙ d))

    pub more_full : 9_999 ≤ length os → calls_writable (one_more os o) ≡ false
    unfolding calls_format many
    more_full h =
        let many : calls_limit ≤ length (one_more os o) = omega (arith, more_length) in
        rw (le-ltb (length (one_more os o)) calls_limit many)

-- a call that cannot be written
every_fails : {A : Type 0} (t : A → Bool) (xs : List A) (x : A) → t x ≡ false → every t (xs ++ (x ∷ [])) ≡ false
every_fails t [] x e = rw e
every_fails t (y ∷ ys) x e = and_false (t y) (every t (ys ++ (x ∷ []))) (every_fails t ys x e)

pub never_writable : (os : List Operation) (o : Operation) → call.domain o ≡ false
    → calls_writable (one_more os o) ≡ false
unfolding calls_format many
never_writable os o e =
    let n = length (one_more os o) in
    and_false (ltb n calls_limit) _ (and_false (eqb n n) _ (every_fails call.domain os o e))

-- ---- a buffer whose first `size` bytes are the file of the calls os

pub record Holds (os : List Operation) (size : ℕ) (out : List ℕ) : Type 0 where
  pub writable : calls_writable os ≡ true
  pub read : read_calls (take size out) ≡ some os
  pub file : take size out ≡ write_calls os
  pub within : size ≤ length out

-- the calls that are read from it
abbrev pub held : (size : ℕ) (out : List ℕ) → List Operation
held size out = calls_format.value (words (take size out))

pub holds : (out : List ℕ) (size : ℕ) → every is_byte out ≡ true → size ≤ length out
    → file_ok calls_format (take size out) ≡ true → Holds (held size out) size out
unfolding read_file
holds out size b l e =
    let p = ok_written calls_format_lawful (take size out) (every_take is_byte size out b) e in
    record { writable = p.0; read = if_true _ _ _ e; file = p.1; within = l }

pub broken : (bs : List ℕ) → file_ok calls_format bs ≡ false → read_calls bs ≡ none
unfolding read_file
broken bs e = if_false _ _ _ e

module _ (os : List Operation) (size : ℕ) (out : List ℕ) (h : Holds os size out) where
  -- the words before the end word
  abbrev us : List ℕ
  us = calls_format.write os

  pub file_size : length (write_calls os) ≡ size
  file_size = sym (ap length h.file) ∙ length-take-le size out h.within

  pub size_words : size ≡ (length us + 1) * 4
  size_words = omega (arith, file_size, file_length os)

  us_length : length us ≡ 2 + length (each call.write os)
  us_length = ap length (calls_words os) ∙ omega arith

  -- the end word stands at word `size / 4 - 1`
  pub end_place : size / 4 - 1 ≡ length us
  end_place = omega (arith, size_words)

  pub size_least : 12 ≤ size
  size_least = omega (arith, size_words, us_length)

  pub count_held : count_at (words (take size out)) 1 ≡ length os
  unfolding write_file
  count_held =
      let few = held_few os h.writable in
      ap (λ bs. count_at (words bs) 1) h.file
      ∙ ap (λ ws. count_at ws 1) (words_bytes (with_end us))
      ∙ ap (λ ws. count_at (with_end ws) 1) (calls_words os)
      ∙ (word_kept 2 calls_limit (length os) (omega arith) few).1

  -- the words before the end word stand at the start of the buffer
  pub held_front : out ≡ put out 0 us
  unfolding write_file put
  held_front =
      let end = end_word us ∷ [] in
      let n = length us * 4 in
      let l : length (bytes us) ≡ n = omega (arith, length_bytes us) in
      let first : n ≤ length (take size out) = omega (arith, size_words, length-take-le size out h.within) in
      let front : take n out ≡ bytes us =
      ap (take n) (sym (take-append-drop size out))
      ∙ take-append-le n (take size out) (drop size out) first
      ∙ ap (take n) (h.file ∙ bytes_append us end)
      ∙ take_at (bytes us) (bytes end) n l in
      let e : n ≡ 0 * 4 + n = omega arith in
      sym (take-append-drop n out) ∙ ap (λ bs. bs ++ drop n out) front ∙ ap (λ m. bytes us ++ drop m out) e
