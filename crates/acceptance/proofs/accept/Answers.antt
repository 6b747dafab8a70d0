-- Each test that fails gives its number; what passed before it is known.
use Rattle.std.specs.Option.{ok_or}
use Rattle.std.proofs.Common.{◌≡◌, ap, true, sym, ◌∙◌, arith}
use Rattle.rules.specs.Acceptance.{sound_settings}
use Rattle.primitives.specs.Settings.{settings_of}
use Rattle.records.specs.Lent.{plain_books, lent_room}
use Rattle.acceptance.specs.Handed.{settings_refused, room_refused}
use Rattle.primitives.specs.declared.answers.Refusal.TheVariants.{UnsoundBooks}
use Rattle.primitives.specs.Answers.{answer_number, sum_of}
use Rattle.acceptance.specs.Total.{total_refused, held_answer}
use Rattle.acceptance.proofs.accept.Goals as goal

pub returns-then-not-settings_sound : goal.returns-then-not-settings_sound
returns-then-not-settings_sound c =
    let S = settings_of c.args.settings in
    let b = c.args.books.now in
    let e = settings_refused S (plain_books b) (lent_room b)
    (sym c.settings_sound.ensures
    ∙ c.if-not-settings_sound.true) in
    record { number_value = e; held_value = total_refused _ _ _ e (λ z. omega arith) }

pub returns-then-not-enough_room : goal.returns-then-not-enough_room
returns-then-not-enough_room c =
    let S = settings_of c.args.settings in
    let b = c.args.books.now in
    let settings-so : sound_settings S ≡ true = sym c.settings_sound.ensures ∙ c.if-not-settings_sound.false in
    let e = room_refused S (plain_books b) (lent_room b) settings-so
    (sym c.enough_room.ensures
    ∙ c.if-not-enough_room.true) in
    record { number_value = e; held_value = total_refused _ _ _ e (λ z. omega arith) }

pub returns : goal.returns
returns c =
    let b = c.args.books.now in
    let a = held_answer (settings_of c.args.settings) (plain_books b) (lent_room b)
    (sym c.settings_sound.ensures ∙ c.if-not-settings_sound.false)
    (sym c.enough_room.ensures ∙ c.if-not-enough_room.false) in
    let e = c.ok_or.ensures.value ∙ ap (λ o. ok_or o UnsoundBooks) c.books_held.ensures in
    record { number_value = ap answer_number e ∙ a.0; held_value = ap sum_of e ∙ a.1 }
