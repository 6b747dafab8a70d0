-- What is handed in: its tests by number, and the facts that the number 0 stands for.
use Rattle.std.specs.Prelude.{◌≡◌, true, false, not, ◌&&◌, nat_le}
use Rattle.std.proofs.Common.{arith}
use Rattle.lists.specs.Base.{when◌then◌else◌}
use Rattle.lists.specs.Laws.{passed, not_not}
use Rattle.rules.specs.Types.{Settings, Books}
use Rattle.rules.specs.Acceptance.{sound_settings, sound_books}
use Rattle.rules.specs.Calls.{Room, enough_room, handed_refusal}
use Rattle.rule_laws.specs.Accepted.{SoundSettings, settings_sound, SoundBooks, books_sound}
use Rattle.primitives.specs.declared.Scalars.{Scalars}
use Rattle.records.specs.Layout.{identities_fit, validators_fit, deposits_fit, partials_fit, consolidations_fit}
use Rattle.records.specs.Books.{Tables, books_of, room_of}
use Rattle.records.specs.Reading.{EnoughRoom, room}
use Rattle.acceptance.specs.Laws.{chained, leb_both}

-- the room in the tables, buffer by buffer, as the code tests it
pub room_form : (S : Settings) (t : Tables)
    → (nat_le S.validator_registry_limit (identities_fit t.identities)
    && nat_le S.validator_registry_limit (validators_fit t.validators)
    && nat_le S.pending_balance_deposits_limit (deposits_fit t.deposits)
    && nat_le S.pending_partial_withdrawals_limit (partials_fit t.partials)
    && nat_le S.pending_consolidations_limit (consolidations_fit t.consolidations))
    ≡ enough_room S (room_of t)
unfolding enough_room
room_form S t =
    rw (leb_both S.validator_registry_limit (identities_fit t.identities) (validators_fit t.validators))
    (chained _ _)

module _ (S : Settings) (b : Books) (r : Room) where
  -- ---- the number, from the tests

  pub settings_refused : sound_settings S ≡ false → 1 ≡ handed_refusal S b r
  unfolding handed_refusal when◌then◌else◌
  settings_refused e = rw e

  pub room_refused : sound_settings S ≡ true → enough_room S r ≡ false → 3 ≡ handed_refusal S b r
  unfolding handed_refusal when◌then◌else◌
  room_refused e f = rw (e, f)

  pub books_refused : sound_settings S ≡ true → enough_room S r ≡ true → sound_books S b ≡ false
      → 2 ≡ handed_refusal S b r
  unfolding handed_refusal when◌then◌else◌
  books_refused e f g = rw (e, f, g)

  -- the three tests passed
  pub record Accepted : Type 0 where
    pub settings : sound_settings S ≡ true
    pub room : enough_room S r ≡ true
    pub books : sound_books S b ≡ true

  pub none_refused : Accepted → 0 ≡ handed_refusal S b r
  unfolding handed_refusal when◌then◌else◌
  none_refused a = rw (a.settings, a.room, a.books)

  -- ---- the tests, from the number

  pub accepted : handed_refusal S b r ≡ 0 → Accepted
  unfolding handed_refusal
  accepted e =
      let s = passed (not (sound_settings S)) (omega arith) e in
      let f = passed (not (enough_room S r)) (omega arith) s.1 in
      let g = passed (not (sound_books S b)) (omega arith) f.1 in
      record { settings = not_not _ s.0; room = not_not _ f.0; books = not_not _ g.0 }

-- accepted settings, tables and books as facts
pub record Facts (S : Settings) (s : Scalars) (t : Tables) : Type 0 where
  pub settings : SoundSettings S
  pub room : EnoughRoom S t
  pub books : SoundBooks S (books_of s t)

pub facts : (S : Settings) (s : Scalars) (t : Tables)
    → handed_refusal S (books_of s t) (room_of t) ≡ 0 → Facts S s t
facts S s t e =
    let a = accepted S (books_of s t) (room_of t) e in
    record {
      settings = settings_sound S a.settings;
      room = room S t a.room;
      books = books_sound S (books_of s t) a.books;
    }
