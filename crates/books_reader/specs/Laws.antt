-- The facts that the reader is proved by.
use Rattle.std.specs.Prelude.{◌≡◌, refl, Bool, true, false, List, ℕ, length, Ok}
use Rattle.std.proofs.Math.Path.{sym, ap}
use Rattle.std.proofs.Common.{◌∙◌, arith}
use Rattle.std.proofs.Math.Option.{some, none}
use Rattle.lists.specs.Laws.{if_true, if_false}
use Rattle.tables.specs.Rows.{length_rows}
use Rattle.rules.specs.Types as rule
use Rattle.rules.specs.Acceptance.{sound_settings, sound_books}
use Rattle.rules.specs.Calls.{Room, enough_room, handed_refusal}
use Rattle.rule_laws.specs.Accepted.{books_sound}
use Rattle.primitives.specs.declared.Scalars.{Scalars}
use Rattle.primitives.specs.Settings.{settings_of}
use Rattle.records.specs.Books.{Tables, room_of}
use Rattle.records.specs.Reading.{room}
use Rattle.acceptance.specs.Handed as handed
use Rattle.acceptance.specs.Handed.{Accepted, accepted}
use Rattle.file_format.specs.Words.{words}
use Rattle.file_format.specs.Books.{books_format}
use Rattle.file_format.specs.File.{file_ok, read_file, read_books}
use Rattle.file_format.specs.Answers.{opened_answer, read_answer}
use Rattle.file_format.specs.Places.{settings_at, books_at}
use Rattle.file_format.proofs.PlacesLaws.{books_value}
use Rattle.file_records.specs.Scalars.{scalars_at}
use Rattle.file_records.specs.Books.{validators_counted, deposits_counted, partials_counted, consolidations_counted}
use Rattle.file_records.specs.Books.{file_validators, file_deposits, file_partials, file_consolidations}
use Rattle.table_stores.specs.Stored.{Fits, BooksStored}
use Rattle.books_reader.specs.declared.Opened.{Opened}
use Rattle.books_reader.specs.Read.{BooksRead}

-- ---- what the file reads to

module _ (bs : List ℕ) where
  abbrev ws : List ℕ
  ws = words bs

  file_read : file_ok books_format bs ≡ true → read_books bs ≡ some (settings_at (words bs), books_at (words bs))
  unfolding read_file
  file_read e = if_true _ _ _ e ∙ ap some (books_value ws)

  file_broken : file_ok books_format bs ≡ false → read_books bs ≡ none
  unfolding read_file
  file_broken e = if_false _ _ _ e

-- ---- the number

module _ (bs : List ℕ) (r : Room) where
  pub broken_refused : file_ok books_format bs ≡ false → 60 ≡ read_answer r bs
  unfolding read_answer
  broken_refused e = sym (ap (opened_answer r) (file_broken bs e))

  module _ (e : file_ok books_format bs ≡ true) where
    answer_read : handed_refusal (settings_at (words bs)) (books_at (words bs)) r ≡ read_answer r bs
    unfolding read_answer
    answer_read = sym (ap (opened_answer r) (file_read bs e))

    module _ {S : rule.Settings} (s : S ≡ settings_at (words bs)) where
      same_answer : handed_refusal S (books_at (words bs)) r ≡ read_answer r bs
      same_answer = ap (λ x. handed_refusal x (books_at (words bs)) r) s ∙ answer_read

      pub settings_refused : sound_settings S ≡ false → 1 ≡ read_answer r bs
      settings_refused f = handed.settings_refused S (books_at (words bs)) r f ∙ same_answer

      pub room_refused : sound_settings S ≡ true → enough_room S r ≡ false → 3 ≡ read_answer r bs
      room_refused f g = handed.room_refused S (books_at (words bs)) r f g ∙ same_answer

      pub books_refused : sound_settings S ≡ true → enough_room S r ≡ true
          → sound_books S (books_at (words bs)) ≡ false → 2 ≡ read_answer r bs
      books_refused f g h = handed.books_refused S (books_at (words bs)) r f g h ∙ same_answer

      pub none_refused : sound_settings S ≡ true → enough_room S r ≡ true
          → sound_books S (books_at (words bs)) ≡ true → 0 ≡ read_answer r bs
      none_refused f g h =
          handed.none_refused S (books_at (words bs)) r (record { settings = f; room = g; books = h }) ∙ same_answer

-- ---- what the number 0 says

-- the file is good, and its settings and books are accepted
pub record Opens (bs : List ℕ) (r : Room) : Type 0 where
  pub good : file_ok books_format bs ≡ true
  pub accepted : Accepted (settings_at (words bs)) (books_at (words bs)) r

pub opens : (bs : List ℕ) (r : Room) → read_answer r bs ≡ 0 → Opens bs r
opens bs r e = go (file_ok books_format bs) refl
  where
    go : (t : Bool) → file_ok books_format bs ≡ t → Opens bs r
    go true f = record {
      good = f;
      accepted = accepted (settings_at (words bs)) (books_at (words bs)) r (answer_read bs r f ∙ e);
    }
    go false f = let z : ⊥ = omega (arith, broken_refused bs r f, e) in absurd z

-- the tables have room for the file's records
pub room_there : (bs : List ℕ) (t : Tables) {s : Scalars} → Opens bs (room_of t) → s ≡ scalars_at (words bs)
    → Fits s t
room_there bs t {s} o e =
    let ws = words bs in
    let S = settings_at ws in
    let b = books_sound S (books_at ws) o.accepted.books in
    let k = room S t o.accepted.room in
    let v : length (file_validators ws) ≡ s.validators = length_rows _ _ ∙ sym (validators_counted ws e) in
    let d : length (file_deposits ws) ≡ s.deposits = length_rows _ _ ∙ sym (deposits_counted ws e) in
    let p : length (file_partials ws) ≡ s.partials = length_rows _ _ ∙ sym (partials_counted ws e) in
    let c : length (file_consolidations ws) ≡ s.consolidations =
    length_rows _ _ ∙ sym (consolidations_counted ws e) in
    record {
      identities = omega (arith, k.identities, b.registry_fits, v);
      validators = omega (arith, k.validators, b.registry_fits, v);
      deposits = omega (arith, k.deposits, b.deposits_fit, d);
      partials = omega (arith, k.partials, b.partials_fit, p);
      consolidations = omega (arith, k.consolidations, b.consolidations_fit, c);
    }

-- what the number 0 gives
pub read_good : (bs : List ℕ) (r : Room) → 0 ≡ read_answer r bs → file_ok books_format bs ≡ true
read_good bs r e = (opens bs r (sym e)).good

pub read_fits : (bs : List ℕ) (t : Tables) {s : Scalars} → 0 ≡ read_answer (room_of t) bs → s ≡ scalars_at (words bs)
    → Fits s t
read_fits bs t e s = room_there bs t (opens bs (room_of t) (sym e)) s

-- ---- the promise

pub read_done : (bs : List ℕ) (t u : Tables) (o : Opened) → 0 ≡ read_answer (room_of t) bs
    → settings_of o.settings ≡ settings_at (words bs) → BooksStored (words bs) o.scalars t u
    → BooksRead bs t u (Ok o)
read_done bs t u o n s b = record {
  number = n;
  books = file_read bs (read_good bs (room_of t) n) ∙ sym (λ j. some (s j, b.books j));
  beyond = b.beyond;
  refused = tt;
}
