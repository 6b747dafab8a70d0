-- The facts that the functions are proved by.
use Rattle.std.specs.Prelude.{◌≡◌, refl, Bool, true, false, List, map, ℕ, ◌*◌, ◌/◌, ◌^◌, ◌≤◌, ◌<◌, min, length}
use Rattle.std.specs.Prelude.{take, drop, Result, Ok, Err, MatchResult}
use Rattle.std.proofs.Common.{sym, ◌∙◌, length-append, length-take-le, lt-ltb, le-ltb, ne_eqb}
use Rattle.std.proofs.Math.Path.{ap}
use Rattle.std.proofs.Math.Option.{Option, some, none}
use native.Mathlib.Omega.{arith}
use Rattle.std.proofs.lemmas.List.{length-map}
use Rattle.lists.specs.Base.{when◌then◌else◌}
use Rattle.lists.specs.Laws.{if_true, if_false}
use Rattle.rules.specs.Types as rule
use Rattle.rules.specs.Calls.{Operation, handed_refusal, run}
use Rattle.conservation.specs.Accepted.{run_accepted}
use Rattle.primitives.specs.declared.Scalars.{Scalars}
use Rattle.primitives.specs.declared.answers.Refusal.{Refusal}
use Rattle.primitives.specs.Answers.{refusal_number, refusal_not_0}
use Rattle.primitives.specs.Settings.{settings_of}
use Rattle.records.specs.Books.{Tables, tables, books_of, room_of, call_on}
use Rattle.records.specs.Fixed.{SameSizes}
use Rattle.acceptance.specs.Handed as handed
use Rattle.file_format.specs.Words.{words}
use Rattle.file_format.specs.File.{file_ok, read_file, read_books, read_calls}
use Rattle.file_format.specs.Fields.{many}
use Rattle.file_format.specs.Places.{count_at}
use Rattle.file_format.specs.Calls.{call, calls_format}
use Rattle.file_format.specs.Answers.{opened_answer, read_answer}
use Rattle.calls_reader.specs.Calls.{good_calls, calls_read}
use Rattle.books_reader.specs.declared.Opened.{Opened}
use Rattle.books_reader.specs.Read.{BooksRead}
use Rattle.table_text.specs.Lines.{lines_of}
use Rattle.table_text.specs.Text.{table_text, refused_text, Printed}
use Rattle.table_text.specs.Theorems.{lines_read}
use Rattle.runs.specs.Lines.{lines, lines_length}
use Rattle.runs.specs.InPlace.{calls_on, same_room}
use Rattle.runs.specs.Promise.{listed_answer, carry_out_answer, CarriedOut, done_books}
use Rattle.runs.specs.Steps.{many_size}
use Rattle.books_output.specs.declared.files.Closing.{Closing}
use Rattle.books_output.specs.Files.{refused, program_room, program_calls, short_enough}
use Rattle.books_output.specs.Files.{with_calls, opened, files}
use Rattle.books_output.specs.Output.{output, most_printed}
use Rattle.books_output.specs.Promise.{BooksOutput}
use Rattle.books_output.specs.Carried.{Opens, Done}

-- ---- files that are short enough

module _ {A : Type 0} (read : List ℕ → Option A) (bs : List ℕ) where
  too_long : 2 ^ 16 < length bs → short_enough read bs ≡ none
  too_long h = if_true _ none (read bs) (lt-ltb (2 ^ 16) (length bs) h)

  is_read : length bs ≤ 2 ^ 16 → short_enough read bs ≡ read bs
  is_read h = if_false _ none (read bs) (le-ltb (2 ^ 16) (length bs) h)

-- ---- the buffers

pub program_buffers : (ids vs ds ps cs : List ℕ) → 20480 ≡ length ids → 1792 ≡ length vs → 512 ≡ length ds
    → 768 ≡ length ps → 512 ≡ length cs → room_of (tables ids vs ds ps cs) ≡ program_room
program_buffers ids vs ds ps cs i v d p c = sym (λ j. record {
  validators = min (i j / 80) (v j / 7);
  deposits = d j / 2;
  partials = p j / 3;
  consolidations = c j / 2;
})

-- ---- the opening

opened_refused : (o : Option (rule.Settings × rule.Books)) (calls : Option (List Operation)) {n : ℕ}
    → n ≡ opened_answer program_room o → (n ≡ 0 → ⊥) → opened o calls ≡ refused n
unfolding when◌then◌else◌
opened_refused none calls e z = ap refused (sym e)
opened_refused (some p) calls {n} e z = rw (← e) (rw (ne_eqb n 0 z))

opened_accepted : (S : rule.Settings) (b : rule.Books) (calls : Option (List Operation))
    → handed_refusal S b program_room ≡ 0 → opened (some (S, b)) calls ≡ with_calls S b calls
unfolding when◌then◌else◌
opened_accepted S b calls h = rw h

module _ (bs : List ℕ) where
  pub opening_too_long : 2 ^ 16 < length bs → (calls : List ℕ) → files bs calls ≡ refused 60
  unfolding files
  opening_too_long h calls = ap (λ o. opened o (short_enough read_calls calls)) (too_long read_books bs h)

  pub opening_read : (t u : Tables) (r : Result Opened Refusal) → room_of t ≡ program_room → length bs ≤ 2 ^ 16
      → BooksRead bs t u r
      → MatchResult r (Opens bs u) (λ e. (calls : List ℕ) → files bs calls ≡ refused (refusal_number e))
  unfolding files read_answer
  opening_read t u (Ok o) m h b =
      let n : 0 ≡ opened_answer program_room (read_books bs) =
      b.number ∙ ap (λ x. opened_answer x (read_books bs)) m in
      record {
        books = is_read read_books bs h ∙ b.books;
        accepted = sym (ap (opened_answer program_room) b.books) ∙ sym n;
      }
  opening_read t u (Err e) m h b = λ calls.
      let n : refusal_number e ≡ opened_answer program_room (read_books bs) =
      b.number ∙ ap (λ x. opened_answer x (read_books bs)) m in
      ap (λ o. opened o (short_enough read_calls calls)) (is_read read_books bs h)
      ∙ opened_refused (read_books bs) (short_enough read_calls calls) n (refusal_not_0 e)

-- ---- the calls

-- no calls file has more than 9,999 calls
calls_few : (bs : List ℕ) {os : List Operation} → read_calls bs ≡ some os → length os ≤ 9_999
unfolding read_file
calls_few bs {os} e = go (file_ok calls_format bs) refl
  where
    go : (t : Bool) → file_ok calls_format bs ≡ t → length os ≤ 9_999
    go true f =
        let n = count_at (words bs) 1 in
        let same : (many call n).value (drop 2 (words bs)) ≡ os = cc (calls_read bs f, e) in
        omega (arith, (good_calls bs f).most, many_size n (drop 2 (words bs)), ap length same)
    go false f =
        let broken : ◌≡◌ {A = Option (List Operation)} none (some os) = sym (if_false _ _ _ f) ∙ e in
        let z : ◌≡◌ {A = ℕ} 0 1 = cc broken in
        let y : ⊥ = omega (arith, z) in
        absurd y

module _ {bs : List ℕ} {u : Tables} {o : Opened} (x : Opens bs u o) (calls : List ℕ) where
  abbrev S : rule.Settings
  S = settings_of o.settings

  abbrev b : rule.Books
  b = books_of o.scalars u

  files_opened : files bs calls ≡ with_calls S b (short_enough read_calls calls)
  unfolding files
  files_opened =
      ap (λ p. opened p (short_enough read_calls calls)) x.books
      ∙ opened_accepted S b (short_enough read_calls calls) x.accepted

  pub calls_too_long : 2 ^ 16 < length calls → files bs calls ≡ refused 60
  calls_too_long h = files_opened ∙ ap (with_calls S b) (too_long read_calls calls h)

  module _ (h : length calls ≤ 2 ^ 16) (m : room_of u ≡ program_room) {w : Tables} {before after : List ℕ}
      (room : 29997 ≡ length before) {n : ℕ} {s : Scalars} {count : ℕ}
      (c : CarriedOut S o.scalars u w calls before after n s count) where
    same_program_calls : (os : List Operation) → calls_on u os ≡ program_calls os
    same_program_calls os = ap (λ m. map (λ op. record { room = m; operation = op }) os) m

    listed : (space : ℕ) → carry_out_answer S b (room_of u) calls space ≡ listed_answer space (read_calls calls)
    unfolding carry_out_answer when◌then◌else◌
    listed space =
        let h : handed_refusal S b (room_of u) ≡ 0 = ap (handed_refusal S b) m ∙ x.accepted in
        rw h

    judged : (p : Option (List Operation)) → read_calls calls ≡ p → files bs calls ≡ with_calls S b p
    judged p e = files_opened ∙ ap (with_calls S b) (is_read read_calls calls h ∙ e)

    answered : (p : Option (List Operation)) → read_calls calls ≡ p → n ≡ listed_answer (length before) p
    answered p e = c.number ∙ listed (length before) ∙ ap (listed_answer (length before)) e

    -- the results have room for the calls of every file
    none_refused : (os : List Operation) → read_calls calls ≡ some os → n ≡ 0
    none_refused os e =
        let few = calls_few calls e in
        answered (some os) e ∙ if_false _ 61 0 (le-ltb (length before) (3 * length os) (omega (arith, few)))

    pub calls_refused : (n ≡ 0 → ⊥) → files bs calls ≡ refused n
    calls_refused z = go (read_calls calls) refl
      where
        go : (p : Option (List Operation)) → read_calls calls ≡ p → files bs calls ≡ refused n
        go none e = judged none e ∙ ap refused (sym (answered none e))
        go (some os) e = absurd (z (none_refused os e))

    all_done : (os : List Operation) → read_calls calls ≡ some os → n ≡ 0 → SameSizes w u
        → Done (files bs calls) w after record { settings = o.settings; scalars = s; count = count }
    all_done os e z k =
        let d = c.done os z e in
        let cs = program_calls os in
        let as_read = same_program_calls os in
        let few = calls_few calls e in
        let books : books_of s w ≡ run S b cs = done_books d ∙ ap (run S b) as_read in
        let a = handed.accepted S b program_room x.accepted in
        let still : handed_refusal S (run S b cs) program_room ≡ 0 =
        sym (handed.none_refused S (run S b cs) program_room (record {
          settings = a.settings;
          room = a.room;
          books = run_accepted S b cs a.books;
        })) in
        let counted : count ≡ length (lines S b (calls_on u os)) =
        d.counted ∙ sym (lines_length S b (calls_on u os) ∙ length-map os (call_on u)) in
        record {
          opening = b;
          calls = cs;
          files = judged (some os) e;
          books = books;
          accepted = (λ j. handed_refusal S (books j) ((same_room k ∙ m) j)) ∙ still;
          lines =
              (λ j. lines_of (d.results j) (counted j))
              ∙ lines_read (lines S b (calls_on u os)) _
              ∙ ap (lines S b) as_read;
          few = omega (arith, d.counted, few);
        }

    pub calls_carried : n ≡ 0 → SameSizes w u
        → Done (files bs calls) w after record { settings = o.settings; scalars = s; count = count }
    calls_carried z k = go (read_calls calls) refl
      where
        go : (p : Option (List Operation)) → read_calls calls ≡ p
            → Done (files bs calls) w after record { settings = o.settings; scalars = s; count = count }
        go none e = let y : ⊥ = omega (arith, z, answered none e) in absurd y
        go (some os) e = all_done os e z k

-- ---- the output

-- what is printed stands in the buffer
module _ {t before after : List ℕ} {r : ℕ} (p : Printed t before after r) where
  pub printed_within : r ≤ length after
  printed_within = omega (arith, p.size, ap length p.bytes, length-append t (drop (length t) before))

  pub printed_part : r ≡ length (take r after)
  printed_part = sym (length-take-le r after printed_within)

module _ {opening calls before after : List ℕ} {r : ℕ} (h : most_printed ≤ length before) where
  pub output_refused : {n : ℕ} → files opening calls ≡ refused n → Printed (refused_text n) before after r
      → BooksOutput opening calls before after r
  unfolding output
  output_refused f p = record {
    printed = λ _. rw f p;
    short = λ l. let y : ⊥ = omega arith in absurd y;
  }

  pub output_done : {u : Tables} {results : List ℕ} {c : Closing} → Done (files opening calls) u results c
      → Printed (table_text (lines_of results c.count)) before after r → BooksOutput opening calls before after r
  unfolding output
  output_done d p = record {
    printed = λ _. rw d.files (rw d.lines at p);
    short = λ l. let y : ⊥ = omega arith in absurd y;
  }
