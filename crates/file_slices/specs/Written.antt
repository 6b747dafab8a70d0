-- What the exported writer of a books file promises.
use Rattle.std.specs.Prelude.{◌≡◌, refl, Bool, true, false, not, List, [], ℕ, length, take}
use Rattle.std.proofs.Common.{sym, ◌∙◌}
use Rattle.std.proofs.Math.Option.{some}
use Rattle.primitives.specs.declared.Settings.{Settings}
use Rattle.primitives.specs.declared.Scalars.{Scalars}
use Rattle.primitives.specs.Settings.{settings_of}
use Rattle.records.specs.Books.{Tables, books_of, room_of}
use Rattle.file_format.specs.File.{write_books, read_books}
use Rattle.file_format.specs.Answers.{write_answer, over}
use Rattle.books_writer.specs.Written.{BooksWritten}
use Rattle.slices.specs.Numbers.{settings_in, scalars_in}
use Rattle.slices.specs.Exported.{rules_in, fit, fit_true, fit_false, unfit_answer, unfit_refused}
use Rattle.file_slices.specs.Fitted.{fitted, fitted_fit, fitted_unfit}

-- Settings in xs, scalars in s, the tables t; a buffer that held `out` holds `last`, and the number lent for the length
-- held `old` and holds `size`. On 0 the file stands at the start of the buffer; a refusal changes nothing.
pub record ExportedWritten (xs s : List ℕ) (t : Tables) (out last : List ℕ) (n old size : ℕ) : Type 0 where
  pub number : n ≡ fitted xs s (write_answer (rules_in xs) (books_of (scalars_in s) t) (room_of t) (length out))
  pub done : n ≡ 0
      → (size ≡ length (write_books (rules_in xs) (books_of (scalars_in s) t)))
      × (last ≡ over (write_books (rules_in xs) (books_of (scalars_in s) t)) out)
  pub refused : (n ≡ 0 → ⊥) → (size ≡ old) × (last ≡ out)
  -- what was written reads back to the same settings and books
  pub read : n ≡ 0 → read_books (take size last) ≡ some (rules_in xs, books_of (scalars_in s) t)

-- ---- laws: f is the computed test of the scalars' length

module _ (xs s : List ℕ) {t : Tables} {out : List ℕ} {n : ℕ} {f : Bool} {settings : Settings}
    (c : settings ≡ settings_in xs) (e : f ≡ fit s []) where
  pub written_unfit : {old : ℕ} → not f ≡ true → n ≡ unfit_answer (settings_of settings)
      → ExportedWritten xs s t out out n old old
  written_unfit z a =
      let unfit : n ≡ unfit_answer (rules_in xs) = rw c at a in
      let refusal : n ≡ 0 → ⊥ = λ q. unfit_refused (rules_in xs) (sym unfit ∙ q) in
      record {
        number = unfit ∙ sym (fitted_unfit xs s _ (fit_false e z));
        done = λ q. absurd (refusal q);
        refused = λ _. (refl, refl);
        read = λ q. absurd (refusal q);
      }

  module _ {last : List ℕ} {size : ℕ} {scalars : Scalars} (z : not f ≡ false) (b : scalars ≡ scalars_in s)
      (w : BooksWritten (settings_of settings) scalars t out last n size) where
    promised : BooksWritten (rules_in xs) (scalars_in s) t out last n size
    promised = rw (c, b) at w

    answered : n ≡ fitted xs s (write_answer (rules_in xs) (books_of (scalars_in s) t) (room_of t) (length out))
    answered = promised.number ∙ sym (fitted_fit xs s _ (fit_true e z))

    pub written_refused : {old : ℕ} → (n ≡ 0 → ⊥) → ExportedWritten xs s t out last n old old
    written_refused h = record {
      number = answered;
      done = λ q. absurd (h q);
      refused = λ _. (refl, (promised.refused h).1);
      read = λ q. absurd (h q);
    }

    pub written_done : {old : ℕ} → n ≡ 0 → ExportedWritten xs s t out last n old size
    written_done h = record {
      number = answered;
      done = promised.done;
      refused = λ q. absurd (q h);
      read = promised.read;
    }
