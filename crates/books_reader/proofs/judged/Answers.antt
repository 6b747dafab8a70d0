-- Each test that fails gives its number.
use mathlib.Core.Path.{sym, ◌∙◌}
use Rattle.books_reader.specs.Laws.{broken_refused, settings_refused, room_refused, books_refused, none_refused}
use Rattle.books_reader.proofs.judged.Goals as goal

pub returns-then-not-books_file_ok-clause-number : goal.returns-then-not-books_file_ok-clause-number
returns-then-not-books_file_ok-clause-number c =
    broken_refused _ _ (sym c.books_file_ok.ensures ∙ c.if-not-books_file_ok.true)

pub returns-then-not-settings_sound-clause-number : goal.returns-then-not-settings_sound-clause-number
returns-then-not-settings_sound-clause-number c =
    let whole = sym c.books_file_ok.ensures ∙ c.if-not-books_file_ok.false in
    settings_refused _ _ whole c.settings_at-settings.ensures
    (sym c.settings_sound.ensures ∙ c.if-not-settings_sound.true)

pub returns-then-not-enough_room-clause-number : goal.returns-then-not-enough_room-clause-number
returns-then-not-enough_room-clause-number c =
    let whole = sym c.books_file_ok.ensures ∙ c.if-not-books_file_ok.false in
    let sound = sym c.settings_sound.ensures ∙ c.if-not-settings_sound.false in
    room_refused _ _ whole c.settings_at-settings.ensures sound
    (sym c.enough_room.ensures ∙ c.if-not-enough_room.true)

pub returns-then-not-file_books_sound-clause-number : goal.returns-then-not-file_books_sound-clause-number
returns-then-not-file_books_sound-clause-number c =
    let whole = sym c.books_file_ok.ensures ∙ c.if-not-books_file_ok.false in
    let sound = sym c.settings_sound.ensures ∙ c.if-not-settings_sound.false in
    let roomy = sym c.enough_room.ensures ∙ c.if-not-enough_room.false in
    books_refused _ _ whole c.settings_at-settings.ensures sound roomy
    (sym c.file_books_sound.ensures ∙ c.if-not-file_books_sound.true)

pub returns : goal.returns
returns c =
    let whole = sym c.books_file_ok.ensures ∙ c.if-not-books_file_ok.false in
    let sound = sym c.settings_sound.ensures ∙ c.if-not-settings_sound.false in
    let roomy = sym c.enough_room.ensures ∙ c.if-not-enough_room.false in
    record {
      number =
          none_refused _ _ whole c.settings_at-settings.ensures sound roomy
          (sym c.file_books_sound.ensures ∙ c.if-not-file_books_sound.false);
      opened = (c.settings_at-settings.ensures, c.scalars_at-scalars.ensures);
    }
