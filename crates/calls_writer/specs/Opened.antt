-- What is tested before the first store.
use Rattle.std.specs.Prelude.{◌≡◌, refl, Bool, true, false, not, List, ℕ, ◌+◌, ◌-◌, ◌*◌}
use Rattle.std.specs.Prelude.{◌/◌, ◌≤◌, ◌<◌, length, take, ltb}
use Rattle.std.proofs.Math.Path.{sym, ap}
use Rattle.std.proofs.Common.{◌∙◌, arith, length-take-le, lt-ltb, le-ltb}
use Rattle.std.proofs.Math.Option.{Option, some, none}
use Rattle.lists.specs.Base.{when◌then◌else◌, every}
use Rattle.lists.specs.Laws.{if_true, if_false}
use Rattle.rules.specs.Calls.{Operation}
use Rattle.file_format.specs.Words.{is_byte, words}
use Rattle.file_format.specs.Calls.{call, calls_format, calls_writable}
use Rattle.file_format.specs.File.{file_ok, write_calls, read_calls}
use Rattle.file_format.specs.Places.{count_at}
use Rattle.file_format.specs.Answers.{add_answer, added_answer, one_more}
use Rattle.calls_writer.specs.Added.{add_number, Added}
use Rattle.calls_writer.specs.Held.{Holds, held, holds, broken, more_file_length, more_writable, more_full}
use Rattle.calls_writer.specs.Held.{never_writable, file_size, size_words, end_place, size_least, count_held}
use Rattle.calls_writer.specs.Fits.{Fits}

-- the buffer begins with a calls file, which takes one call more of w words
pub record Room (size w : ℕ) (out : List ℕ) : Type 0 where
  pub holds : Holds (held size out) size out
  pub few : length (held size out) < 9_999
  pub within : size + w * 4 ≤ length out

-- n is what is answered to any call of w words
pub record Opened (size w : ℕ) (out : List ℕ) (n : ℕ) : Type 0 where
  pub number : (o : Operation) → Fits o w → n ≡ add_number out size o
  pub room : n ≡ 0 → Room size w out

module _ (o : Operation) (size : ℕ) (out : List ℕ) where
  long_number : length out < size → 60 ≡ add_number out size o
  unfolding add_number
  long_number h = sym (if_true _ _ _ (lt-ltb (length out) size h))

  within_number : size ≤ length out → add_number out size o ≡ add_answer (take size out) (length out) o
  unfolding add_number
  within_number l = if_false _ _ _ (le-ltb (length out) size l)

  broken_number : size ≤ length out → file_ok calls_format (take size out) ≡ false → 60 ≡ add_number out size o
  unfolding add_answer
  broken_number l e = sym (within_number l ∙ ap (added_answer (length out) o) (broken (take size out) e))

  module _ (os : List Operation) (h : Holds os size out) where
    read_number : add_number out size o ≡ added_answer (length out) o (some os)
    unfolding add_answer
    read_number = within_number h.within ∙ ap (added_answer (length out) o) h.read

    unwritable_number : calls_writable (one_more os o) ≡ false → 60 ≡ add_number out size o
    unwritable_number e = sym (read_number ∙ if_true _ _ _ (ap not e))

    module _ (w : ℕ) (f : Fits o w) (g : length os < 9_999) where
      pub more_size : length (write_calls (one_more os o)) ≡ size + w * 4
      more_size = omega (arith, more_file_length os o, f.words, file_size os size out h)

      writable_number : add_number out size o ≡ (when ltb (length out) (size + w * 4) then 61 else 0)
      writable_number =
          read_number
          ∙ if_false _ _ _ (ap not (more_writable os o h.writable f.domain g))
          ∙ ap (λ n. when ltb (length out) n then 61 else 0) more_size

-- the part of the buffer that is said to be the file
pub part_length : (size : ℕ) (out : List ℕ) → size ≤ length out → size ≡ length (take size out)
part_length size out h = sym (length-take-le size out h)

module _ (size w : ℕ) (out : List ℕ) where
  pub opened_long : length out < size → Opened size w out 60
  opened_long h = record {
    number = λ o f. long_number o size out h;
    room = λ e. let z : ⊥ = omega arith in absurd z;
  }

  pub opened_broken : (r : Bool) → size ≤ length out → r ≡ file_ok calls_format (take size out) → r ≡ false
      → Opened size w out 60
  opened_broken r l e g = record {
    number = λ o f. broken_number o size out l (sym e ∙ g);
    room = λ e. let z : ⊥ = omega arith in absurd z;
  }

  module _ (r : Bool) (n : ℕ) (b : every is_byte out ≡ true) (l : size ≤ length out)
      (e : r ≡ file_ok calls_format (take size out)) (g : r ≡ true)
      (c : n ≡ count_at (words (take size out)) 1) where
    there : Holds (held size out) size out
    there = holds out size b l (sym e ∙ g)

    counted : n ≡ length (held size out)
    counted = c ∙ count_held (held size out) size out there

    pub opened_full : 9_999 ≤ n → Opened size w out 60
    opened_full m = record {
      number = λ o f.
          let os = held size out in
          unwritable_number o size out os there (more_full os o (omega (arith, counted)));
      room = λ e. let z : ⊥ = omega arith in absurd z;
    }

    module _ (m : n < 9_999) where
      few : length (held size out) < 9_999
      few = omega (arith, counted)

      pub opened_short : length out - size < w * 4 → Opened size w out 61
      opened_short s = record {
        number = λ o f.
            let h : length out < size + w * 4 = omega arith in
            let answer = writable_number o size out (held size out) there w f few in
            sym (answer ∙ if_true _ _ _ (lt-ltb (length out) (size + w * 4) h));
        room = λ e. let z : ⊥ = omega arith in absurd z;
      }

      pub opened_done : w * 4 ≤ length out - size → Opened size w out 0
      opened_done s = record {
        number = λ o f.
            let h : size + w * 4 ≤ length out = omega arith in
            let answer = writable_number o size out (held size out) there w f few in
            sym (answer ∙ if_false _ _ _ (le-ltb (length out) (size + w * 4) h));
        room = λ e. record { holds = there; few = few; within = omega arith };
      }

-- where the end word of the file stands, there is room for w words and an end word
pub room_whole : (size w : ℕ) (out : List ℕ) → Room size w out → (size / 4 - 1 + w + 1) * 4 ≤ length out
room_whole size w out r =
    let os = held size out in
    omega (arith, r.within, size_words os size out r.holds, end_place os size out r.holds)

module _ (size w n : ℕ) (out : List ℕ) (p : Opened size w out n) (z : n ≡ 0) where
  pub open_place : 1 ≤ size / 4
  open_place = omega (arith, size_least (held size out) size out (p.room z).holds)

  pub open_room : (size / 4 - 1 + w) * 4 ≤ length out
  open_room = omega (arith, room_whole size w out (p.room z))

-- the promise, where nothing was stored
pub added_refused : (o : Operation) (size w n : ℕ) (out : List ℕ) → Opened size w out n → Fits o w → (n ≡ 0 → ⊥)
    → Added o size out out n size
added_refused o size w n out p f z = record {
  number = p.number o f;
  done = λ x. absurd (z x);
  refused = λ x. (refl, refl);
}

-- ---- a call that cannot be written: nothing is stored

never_answer : (space : ℕ) (o : Operation) → call.domain o ≡ false → (r : Option (List Operation))
    → added_answer space o r ≡ 60
never_answer space o e none = refl
never_answer space o e (some os) = if_true _ _ _ (ap not (never_writable os o e))

either : (t : Bool) (x y : ℕ) → y ≡ x → (when t then x else y) ≡ x
either true x y e = if_true true x y refl
either false x y e = if_false false x y refl ∙ e

never_number : (o : Operation) (size : ℕ) (out : List ℕ) → call.domain o ≡ false → 60 ≡ add_number out size o
unfolding add_number add_answer
never_number o size out e =
    sym (either (ltb (length out) size) 60 _ (never_answer (length out) o e (read_calls (take size out))))

pub added_never : (o : Operation) (size : ℕ) (out : List ℕ) → call.domain o ≡ false → Added o size out out 60 size
added_never o size out e = record {
  number = never_number o size out e;
  done = λ x. let z : ⊥ = omega arith in absurd z;
  refused = λ x. (refl, refl);
}
