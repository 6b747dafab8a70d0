-- The facts that the closing books are proved by.
use Rattle.std.specs.Prelude.{◌≡◌, refl, Bool, true, false, List, ℕ, ◌≤◌, take, drop, eqb, Result, Ok, Err, IfOk}
use Rattle.std.proofs.Math.Path.{sym, ap}
use Rattle.std.proofs.Common.{◌∙◌, arith, length-append, length-take-le, eqb-true}
use Rattle.std.proofs.Math.ListN.{length}
use Rattle.std.proofs.Math.Dec.{ltb}
use Rattle.std.proofs.lemmas.Bool.{eqb-false}
use Rattle.lists.specs.Base.{when◌then◌else◌}
use Rattle.rules.specs.Types as rule
use Rattle.rules.specs.Calls.{Room, handed_refusal}
use Rattle.primitives.specs.declared.answers.Refusal.{Refusal}
use Rattle.primitives.specs.Answers.{refusal_number, answer_number, answer_or, refusal_not_0}
use Rattle.primitives.specs.Settings.{settings_of}
use Rattle.records.specs.Books.{Tables, books_of, room_of}
use Rattle.file_format.specs.File.{write_books}
use Rattle.file_format.specs.Answers.{write_answer, over}
use Rattle.books_writer.specs.Written.{BooksWritten}
use Rattle.books_output.specs.declared.files.Closing.{Closing}
use Rattle.books_output.specs.Files.{refused, files}
use Rattle.books_output.specs.Closing.{closing_of, closing_number, closing, closing_answer, ClosingWritten}
use Rattle.books_output.specs.Carried.{Done}

-- accepted books are refused for the buffer alone
write_accepted : (S : rule.Settings) (b : rule.Books) (r : Room) (space : ℕ) → handed_refusal S b r ≡ 0
    → write_answer S b r space ≡ (when ltb space (length (write_books S b)) then 61 else 0)
unfolding write_answer when◌then◌else◌
write_accepted S b r space h = rw h

module _ {opening calls before : List ℕ} where
  pub closing_refused_number : {n : ℕ} → (n ≡ 0 → ⊥) → files opening calls ≡ refused n
      → ClosingWritten opening calls before before n 0
  unfolding closing_answer
  closing_refused_number z f = record {
    number = sym (ap (λ f. closing_number f (length before)) f);
    done = λ d. absurd (z d);
    refused = λ _. (refl, refl);
  }

  pub closing_refused : (e : Refusal) → files opening calls ≡ refused (refusal_number e)
      → ClosingWritten opening calls before before (refusal_number e) 0
  closing_refused e f = closing_refused_number (refusal_not_0 e) f

  pub closing_done : {u : Tables} {results : List ℕ} {c : Closing} {after : List ℕ} {n size : ℕ}
      → Done (files opening calls) u results c
      → BooksWritten (settings_of c.settings) c.scalars u before after n size
      → ClosingWritten opening calls before after n size
  unfolding closing_answer closing
  closing_done {u} {results} {c} {after} {n} {size} d w =
      let S = settings_of c.settings in
      let file : closing opening calls ≡ write_books S (books_of c.scalars u) =
      ap closing_of d.files ∙ ap (write_books S) (sym d.books) in
      record {
        number =
            w.number
            ∙ write_accepted S (books_of c.scalars u) (room_of u) (length before) d.accepted
            ∙ ap (λ b. when ltb (length before) (length (write_books S b)) then 61 else 0) d.books
            ∙ sym (ap (λ f. closing_number f (length before)) d.files);
        done = λ e.
            let y = w.done e in
            (y.0 ∙ ap length (sym file), y.1 ∙ ap (λ f. over f before) (sym file));
        refused = w.refused;
      }

  -- the file stands in the buffer, whatever the number
  module _ {after : List ℕ} {n size : ℕ} (w : ClosingWritten opening calls before after n size) where
    pub size_within : size ≤ length after
    size_within = go (eqb n 0) refl
      where
        go : (t : Bool) → eqb n 0 ≡ t → size ≤ length after
        go true e =
            let y = w.done (eqb-true n 0 e) in
            let file = closing opening calls in
            omega (arith, y.0, ap length y.1, length-append file (drop (length file) before))
        go false e = omega (arith, (w.refused (eqb-false n 0 e)).0)

    pub closing_part : size ≡ length (take size after)
    closing_part = sym (length-take-le size after size_within)

  -- and so it does where a size is answered
  pub closing_within : {after : List ℕ} (r : Result ℕ Refusal)
      → ClosingWritten opening calls before after (answer_number r) (answer_or 0 r) → IfOk r (λ n. n ≤ length after)
  closing_within (Ok n) w = size_within w
  closing_within (Err _) w = tt

pub part_there : (after : List ℕ) (r : Result ℕ Refusal) → IfOk r (λ n. n ≤ length after)
    → IfOk r (λ n. n ≡ length (take n after))
part_there after (Ok n) h = sym (length-take-le n after h)
part_there after (Err _) h = tt
