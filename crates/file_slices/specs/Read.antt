-- What the exported reader of a books file promises.
use Rattle.std.specs.Prelude.{◌≡◌, refl, Bool, true, false, not, List, [], ◌∷◌, ℕ, leb, length, drop, Ok, Err}
use Rattle.std.proofs.Common.{ap, sym, ◌∙◌, arith}
use Rattle.std.proofs.Math.Option.{Option, some, none}
use Rattle.lists.specs.Base.{when◌then◌else◌}
use Rattle.lists.specs.Laws.{if_true, if_false}
use Rattle.rules.specs.Types as rule
use Rattle.rules.specs.Calls.{Room}
use Rattle.primitives.specs.declared.answers.Refusal.{Refusal}
use Rattle.primitives.specs.Answers.{refusal_number, refusal_not_0}
use Rattle.records.specs.Books.{Tables, books_of, room_of, Beyond}
use Rattle.file_format.specs.Words.{words}
use Rattle.file_format.specs.Books.{books_format}
use Rattle.file_format.specs.File.{file_ok, read_file, read_books}
use Rattle.file_format.specs.Answers.{read_answer}
use Rattle.file_format.specs.Places.{settings_at}
use Rattle.file_format.proofs.PlacesLaws.{books_value}
use Rattle.books_reader.specs.declared.Opened.{Opened}
use Rattle.books_reader.specs.Read.{BooksRead}
use Rattle.slices.specs.Numbers.{scalars_in, with_settings, with_scalars}
use Rattle.slices.specs.Exported.{rules_in, fit, fit_true, fit_false, unfit_answer, unfit_refused}

-- ---- the number

-- room for nineteen settings in x and thirteen scalars in s
abbrev pub read_fit : (x s : List ℕ) → Bool
read_fit x s = fit s (leb 19 (length x) ∷ [])

-- where one of them is too short, it is a short buffer: 60, 1, then 3
abbrev pub unfit_opened : Option (rule.Settings × rule.Books) → ℕ
unfit_opened none = 60
unfit_opened (some p) = unfit_answer p.0

unfoldable pub exported_read_answer : (x s : List ℕ) → Room → (bs : List ℕ) → ℕ
exported_read_answer x s r bs =
    let unfit = unfit_opened (read_books bs) in
    when read_fit x s then read_answer r bs else unfit

-- ---- the promise

-- The bytes bs read into tables t, settings x and scalars s leave the tables u, the settings y and the scalars r. On 0
-- these are what the file reads to, and past it everything is as it was; a refusal changes nothing.
pub record ExportedRead (bs : List ℕ) (t u : Tables) (x y s r : List ℕ) (n : ℕ) : Type 0 where
  pub number : n ≡ exported_read_answer x s (room_of t) bs
  pub books : n ≡ 0 → read_books bs ≡ some (rules_in y, books_of (scalars_in r) u)
  pub beyond : n ≡ 0 → Beyond (scalars_in r) u t
  pub past : n ≡ 0 → (drop 19 y ≡ drop 19 x) × (drop 13 r ≡ drop 13 s)
  pub refused : (n ≡ 0 → ⊥) → (y ≡ x) × ((r ≡ s) × (u ≡ t))

-- ---- laws

pub unfit_broken : (bs : List ℕ) → file_ok books_format bs ≡ false → 60 ≡ unfit_opened (read_books bs)
unfolding read_file
unfit_broken bs e = sym (ap unfit_opened (if_false _ _ _ e))

pub unfit_whole : (bs : List ℕ) {n : ℕ} {S : rule.Settings} → file_ok books_format bs ≡ true
    → S ≡ settings_at (words bs) → n ≡ unfit_answer S → n ≡ unfit_opened (read_books bs)
unfolding read_file
unfit_whole bs e s a =
    a ∙ ap unfit_answer s ∙ sym (ap unfit_opened (if_true _ _ _ e ∙ ap some (books_value (words bs))))

unfit_opened_refused : (o : Option (rule.Settings × rule.Books)) → unfit_opened o ≡ 0 → ⊥
unfit_opened_refused none e = omega arith
unfit_opened_refused (some p) e = unfit_refused p.0 e

module _ (bs : List ℕ) (t : Tables) (x s : List ℕ) where
  abbrev answer : ℕ
  answer = exported_read_answer x s (room_of t) bs

  read_unfit_number : read_fit x s ≡ false → answer ≡ unfit_opened (read_books bs)
  unfolding exported_read_answer
  read_unfit_number e = if_false _ _ _ e

  pub read_fit_number : read_fit x s ≡ true → answer ≡ read_answer (room_of t) bs
  unfolding exported_read_answer
  read_fit_number e = if_true _ _ _ e

  -- what is answered 0 was lent room
  pub read_done_fit : answer ≡ 0 → read_fit x s ≡ true
  read_done_fit e = go (read_fit x s) refl
    where
      go : (f : Bool) → read_fit x s ≡ f → f ≡ true
      go true p = refl
      go false p = absurd (unfit_opened_refused (read_books bs) (sym (read_unfit_number p) ∙ e))

  -- f is the computed test
  pub read_unfit : {f : Bool} {n : ℕ} → f ≡ read_fit x s → not f ≡ true → n ≡ unfit_opened (read_books bs)
      → ExportedRead bs t t x x s s n
  read_unfit {f} {n} e z a =
      let refusal : n ≡ 0 → ⊥ = λ q. unfit_opened_refused (read_books bs) (sym a ∙ q) in
      record {
        number = a ∙ sym (read_unfit_number (fit_false e z));
        books = λ q. absurd (refusal q);
        beyond = λ q. absurd (refusal q);
        past = λ q. absurd (refusal q);
        refused = λ _. (refl, (refl, refl));
      }

  module _ {f : Bool} (e : f ≡ read_fit x s) (z : not f ≡ false) where
    answered : {n : ℕ} → n ≡ read_answer (room_of t) bs → n ≡ exported_read_answer x s (room_of t) bs
    answered a = a ∙ sym (read_fit_number (fit_true e z))

    pub read_refused : {u : Tables} {r : Refusal} → BooksRead bs t u (Err r)
        → ExportedRead bs t u x x s s (refusal_number r)
    read_refused {r = r} b = record {
      number = answered b.number;
      books = λ q. absurd (refusal_not_0 r q);
      beyond = λ q. absurd (refusal_not_0 r q);
      past = λ q. absurd (refusal_not_0 r q);
      refused = λ _. (refl, (refl, b.refused));
    }

    pub read_done : {u : Tables} {o : Opened} {y r : List ℕ} → BooksRead bs t u (Ok o) → y ≡ with_settings x o.settings
        → r ≡ with_scalars s o.scalars → ExportedRead bs t u x y s r 0
    read_done b v w =
        rw (v, w)
        (record {
          number = answered b.number;
          books = λ _. b.books;
          beyond = λ _. b.beyond;
          past = λ _. (refl, refl);
          refused = λ q. absurd (q refl);
        })
