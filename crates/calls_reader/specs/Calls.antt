-- What a program that carries out the calls of a file goes by: it takes one call after another, as many as the count
-- says, and each begins where the last one ended. ws are the words of the file; us are those that are left of them.
use Rattle.std.specs.Prelude.{◌≡◌, true, ◌&&◌, ℕ, suc, ◌+◌, ◌-◌, ◌%◌, ◌≤◌, ◌<◌, length, get_or, drop}
use Rattle.std.proofs.Common.{sym, ◌∙◌, arith, length-drop}
use Rattle.std.proofs.Math.Path.{ap}
use mathlib.Core.List.{List, [], ◌∷◌}
use Rattle.std.proofs.Math.Option.{some}
use Rattle.std.proofs.Math.Seq.{drop-drop}
use Rattle.std.proofs.Math.Dec.{eqb}
use Rattle.lists.specs.Laws.{both, if_true}
use Rattle.rules.specs.Calls.{Operation}
use Rattle.file_format.specs.Words.{word, calls_head, payload, is_word, words}
use Rattle.file_format.specs.Fields.{many}
use Rattle.file_format.specs.File.{ends, file_ok, read_file, read_calls}
use Rattle.file_format.specs.Places.{count_at}
use Rattle.file_format.specs.Calls.{call, calls_limit, calls_format}
use Rattle.file_format.proofs.FieldsLaws.{word_only, first_word}
use Rattle.file_format.proofs.AccessLaws.{get_d_at}
use Rattle.calls_reader.specs.Widths.{longest, next_place, next_rest, next_within, next_near}

-- ---- the file by places: the head at word 0, the count at 1, the calls from 2 on

module _ (ws : List ℕ) where
  pub calls_ok_at : calls_format.ok ws
      ≡ eqb (get_or ws 0 0) (word 1 calls_head)
      && (is_word 2 calls_limit (get_or ws 1 0) && (many call (count_at ws 1)).ok (drop 2 ws))
  unfolding calls_format
  calls_ok_at =
      let w = get_d_at 1 ws in
      let d = drop-drop 1 1 ws in
      λ j.
      eqb (get_or ws 0 0) (word 1 calls_head)
      && (is_word 2 calls_limit (w j) && (many call (payload (w j))).ok (d j))

  calls_value_at : calls_format.value ws ≡ (many call (count_at ws 1)).value (drop 2 ws)
  unfolding calls_format
  calls_value_at =
      let w = get_d_at 1 ws in
      let d = drop-drop 1 1 ws in
      λ j. (many call (payload (w j))).value (d j)

  pub calls_rest_at : calls_format.rest ws ≡ (many call (count_at ws 1)).rest (drop 2 ws)
  unfolding calls_format
  calls_rest_at =
      let w = get_d_at 1 ws in
      let d = drop-drop 1 1 ws in
      λ j. (many call (payload (w j))).rest (d j)

-- ---- a file that was judged good

pub record GoodCalls (ws : List ℕ) : Type 0 where
  pub most : count_at ws 1 ≤ 9_999
  pub good : (many call (count_at ws 1)).ok (drop 2 ws) ≡ true
  pub long : 2 ≤ length ws

module _ (bs : List ℕ) (e : file_ok calls_format bs ≡ true) where
  file_parts : calls_format.ok (words bs) ≡ true
  unfolding file_ok
  file_parts =
      let ws = words bs in
      let s = both (eqb (length bs % 4) 0) _ e in
      (both (calls_format.ok ws) (ends ws (calls_format.rest ws)) s.1).0

  pub good_calls : GoodCalls (words bs)
  good_calls =
      let ws = words bs in
      let head = eqb (get_or ws 0 0) (word 1 calls_head) in
      let count_ok = is_word 2 calls_limit (get_or ws 1 0) in
      let calls_ok = (many call (count_at ws 1)).ok (drop 2 ws) in
      let s = both head (count_ok && calls_ok) (sym (calls_ok_at ws) ∙ file_parts) in
      let t = both count_ok calls_ok s.1 in
      let there : is_word 2 calls_limit (get_or (drop 1 ws) 0 0) ≡ true =
      ap (is_word 2 calls_limit) (get_d_at 1 ws) ∙ t.0 in
      let one = first_word 2 calls_limit (omega arith) (drop 1 ws) there in
      record {
        most = omega (arith, (word_only 2 calls_limit (get_or ws 1 0) t.0).0);
        good = t.1;
        long = omega (arith, ap length one, length-drop 1 ws);
      }

  -- what is read are the calls that are taken one by one
  pub calls_read : read_calls bs ≡ some ((many call (count_at (words bs) 1)).value (drop 2 (words bs)))
  unfolding read_file
  calls_read = if_true _ _ _ e ∙ ap some (calls_value_at (words bs))

-- no call is longer than 258 words; from `next` on stands what follows the call
pub near : (us : List ℕ) (next : ℕ) → call.ok us ≡ true → drop next us ≡ call.rest us → next ≤ length us
    → next ≤ longest
near us next g e l =
    let m = next_place us in
    let same = ap length (e ∙ sym (next_rest us g)) in
    omega (arith, same, length-drop next us, length-drop m us, next_within us g, next_near us g)

-- ---- one call after another, in a loop that counts up: us begin with call i of c

module _ (us : List ℕ) (c i : ℕ) (l : i < c) where
  one_more : c - i ≡ suc (c - (i + 1))
  one_more = omega arith

  pub call_i_good : (many call (c - i)).ok us ≡ true → call.ok us ≡ true
  unfolding many
  call_i_good e = (both (call.ok us) _ (rw one_more at e)).0

  -- `next` are the words behind it
  module _ (next : List ℕ) (h : next ≡ call.rest us) where
    pub calls_good_behind : (many call (c - i)).ok us ≡ true → (many call (c - (i + 1))).ok next ≡ true
    unfolding many
    calls_good_behind e = ap (many call (c - (i + 1))).ok h ∙ (both (call.ok us) _ (rw one_more at e)).1

    pub calls_left_behind : (many call (c - i)).value us
        ≡ call.value us ∷ (many call (c - (i + 1))).value next
    unfolding many
    calls_left_behind =
        rw one_more (ap {B = List Operation} (λ vs. call.value us ∷ (many call (c - (i + 1))).value vs) (sym h))

pub no_calls_left : (us : List ℕ) (c i : ℕ) → c ≤ i → (many call (c - i)).value us ≡ []
unfolding many
no_calls_left us c i h =
    let e : c - i ≡ 0 = omega arith in
    rw e
