-- What is stored of a call: its words where the end word was, the count raised by one, the end word behind.
use Rattle.std.specs.Prelude.{◌≡◌, List, [], ◌∷◌, ◌++◌, ℕ, ◌+◌, ◌-◌, ◌*◌, ◌/◌, ◌≤◌, ◌<◌, take, drop}
use Rattle.std.proofs.Math.Path.{refl, ap}
use Rattle.std.proofs.Common.{sym, ◌∙◌}
use native.Mathlib.Omega.{arith}
use Rattle.std.proofs.Math.ListN.{length, length-append}
use Rattle.rules.specs.Calls.{Operation}
use Rattle.file_format.specs.Words.{word, calls_head, end_word, with_end, words}
use Rattle.file_format.specs.Fields.{each}
use Rattle.file_format.specs.Calls.{call, calls_limit, calls_format}
use Rattle.file_format.specs.File.{write_file, write_calls}
use Rattle.file_format.specs.Places.{count_at}
use Rattle.file_format.specs.Answers.{one_more, over}
use Rattle.file_format.proofs.FieldsLaws.{word_kept}
use Rattle.file_format.proofs.FileLaws.{some_same}
use Rattle.file_format.specs.PutLaws.{put}
use Rattle.file_format.proofs.FileLaws.{words_front}
use Rattle.file_stores.specs.Laws.{put_next, put_length, put_closed, put_over}
use Rattle.calls_writer.specs.Added.{Added}
use Rattle.calls_writer.specs.Held.{held, held_few, calls_words, more_words, end_place, size_least, held_front}
use Rattle.calls_writer.specs.Fits.{Fits}
use Rattle.calls_writer.specs.Opened.{Room, Opened, room_whole, more_size}

-- the buffer with its count of calls raised by one
unfoldable pub counted_more : List ℕ → List ℕ
counted_more mid = put mid 1 (word 2 (count_at (words mid) 1 + 1) ∷ [])

-- and with the end word of its first n words behind them
unfoldable pub closed : List ℕ → ℕ → List ℕ
closed mid n = put (counted_more mid) n (end_word (take n (words (counted_more mid))) ∷ [])

-- what this asks of a buffer
pub record Ready (size w : ℕ) (mid : List ℕ) : Type 0 where
  pub long : 12 ≤ size
  pub within : size + w * 4 ≤ length mid
  pub few : count_at (words mid) 1 < 9_999

pub close_made : (mid raised last : List ℕ) (c n : ℕ) → c ≡ count_at (words mid) 1
    → raised ≡ put mid 1 (word 2 (c + 1) ∷ []) → last ≡ put raised n (end_word (take n (words raised)) ∷ [])
    → last ≡ closed mid n
unfolding closed counted_more
close_made mid raised last c n e f g =
    let q : raised ≡ counted_more mid = f ∙ ap (λ m. put mid 1 (word 2 (m + 1) ∷ [])) e in
    g ∙ ap (λ o. put o n (end_word (take n (words o)) ∷ [])) q

-- ---- any words where the end word was

module _ (size w : ℕ) (out mid ws : List ℕ) (r : Room size w out) (f : length ws ≡ w)
    (e : mid ≡ put out (size / 4 - 1) ws) where
  words_behind : mid
      ≡ put out 0 (word 1 calls_head ∷ word 2 (length (held size out)) ∷ (each call.write (held size out) ++ ws))
  words_behind =
      let os = held size out in
      let us = calls_format.write os in
      let place = end_place os size out r.holds in
      let whole = room_whole size w out r in
      put_next out out mid 0 (size / 4 - 1) us ws (held_front os size out r.holds) e (omega (arith, place))
      (omega (arith, whole))
      ∙ ap (λ vs. put out 0 (vs ++ ws)) (calls_words os)

  count_kept : count_at (words mid) 1 ≡ length (held size out)
  unfolding put
  count_kept =
      let os = held size out in
      let few = held_few os r.holds.writable in
      let vs = word 1 calls_head ∷ word 2 (length os) ∷ (each call.write os ++ ws) in
      ap (λ bs. count_at (words bs) 1) words_behind
      ∙ ap (λ us. count_at us 1) (words_front vs (drop (0 * 4 + length vs * 4) out))
      ∙ (word_kept 2 calls_limit (length os) (omega arith) few).1

  ready : Ready size w mid
  ready =
      let whole = room_whole size w out r in
      let l = put_length out mid (size / 4 - 1) ws e (omega (arith, whole)) in
      record {
        long = size_least (held size out) size out r.holds;
        within = omega (arith, r.within, l);
        few = omega (arith, count_kept, r.few);
      }

-- ---- the words of a call: the file holds one call more

-- the second of the words that were put, put anew
second_put : (out : List ℕ) (a b c : ℕ) (ws : List ℕ) → put (put out 0 (a ∷ b ∷ ws)) 1 (c ∷ []) ≡ put out 0 (a ∷ c ∷ ws)
unfolding put
second_put out a b c ws = refl

module _ (o : Operation) (size w : ℕ) (out mid : List ℕ) (r : Room size w out) (f : Fits o w)
    (e : mid ≡ put out (size / 4 - 1) (call.write o)) where
  raised : counted_more mid ≡ put out 0 (calls_format.write (one_more (held size out) o))
  unfolding counted_more
  raised =
      let os = held size out in
      let n = length os in
      let u = words_behind size w out mid (call.write o) r f.words e in
      let c = count_kept size w out mid (call.write o) r f.words e in
      (λ j. put (u j) 1 (word 2 (c j + 1) ∷ []))
      ∙ second_put out (word 1 calls_head) (word 2 n) (word 2 (n + 1)) (each call.write os ++ call.write o)
      ∙ ap (put out 0) (sym (more_words os o))

  closed_file : closed mid (size / 4 - 1 + w) ≡ over (write_calls (one_more (held size out) o)) out
  unfolding closed write_file
  closed_file =
      let os = held size out in
      let n = size / 4 - 1 + w in
      let ws = calls_format.write (one_more os o) in
      let l : n ≡ length ws =
      omega (
        arith,
        end_place os size out r.holds,
        f.words,
        ap length (calls_words os),
        ap length (more_words os o),
        length-append (each call.write os) (call.write o),
      ) in
      put_closed out (counted_more mid) (closed mid n) ws n raised l refl (room_whole size w out r)
      ∙ put_over out (with_end ws)

-- ---- what the functions cite

module _ (o : Operation) (size w n : ℕ) (out mid : List ℕ) (p : Opened size w out n) (z : n ≡ 0) (f : Fits o w)
    (e : mid ≡ put out (size / 4 - 1) (call.write o)) where
  pub call_ready : Ready size w mid
  call_ready = ready size w out mid (call.write o) (p.room z) f.words e

  -- the promise, where the call was stored
  pub added_done : (last : List ℕ) (l : ℕ) → (last ≡ closed mid (size / 4 - 1 + w)) × (l ≡ size + w * 4)
      → Added o size out last 0 l
  added_done last l c =
      let r = p.room z in
      let there = held size out in
      let file = closed_file o size w out mid r f e in
      let more = more_size o size out there r.holds w f r.few in
      record {
        number = sym z ∙ p.number o f;
        done = λ x os h.
            let q : there ≡ os = some_same (sym r.holds.read ∙ h) in (
              c.0 ∙ file ∙ ap (λ xs. over (write_calls (one_more xs o)) out) q,
              c.1 ∙ sym more ∙ ap (λ xs. length (write_calls (one_more xs o))) q,
            );
        refused = λ x. absurd (x refl);
      }
