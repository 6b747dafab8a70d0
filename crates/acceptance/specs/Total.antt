-- The sum that the tests hand on: what accepted books hold, and 0 where what was handed in is refused.
use Rattle.std.specs.Prelude.{◌≡◌, refl, ℕ, ◌==◌, ◌≢◌, Bool, true, false}
use Rattle.std.specs.Option.{ok_or}
use Rattle.std.proofs.Common.{sym, ◌∙◌, eq-eqb, ne_eqb, arith}
use Rattle.lists.specs.Base.{when◌then◌else◌}
use Rattle.lists.specs.Laws.{if_true, if_false}
use Rattle.rules.specs.Types.{Settings, Books}
use Rattle.rules.specs.Acceptance.{sound_settings, sound_books, held}
use Rattle.rules.specs.Calls.{Room, enough_room, handed_refusal}
use Rattle.primitives.specs.declared.answers.Refusal.TheVariants.{UnsoundBooks}
use Rattle.primitives.specs.Answers.{answer_number, sum_of}
use Rattle.acceptance.specs.Handed.{none_refused, books_refused}
use Rattle.acceptance.specs.Held.{held_if_sound, some_held, none_held}

unfoldable pub total_given : Settings → Books → Room → ℕ
total_given S b r = when handed_refusal S b r == 0 then held b else 0

pub total_refused : (S : Settings) (b : Books) (r : Room) {n : ℕ} → n ≡ handed_refusal S b r → (n ≢ 0)
    → 0 ≡ total_given S b r
unfolding total_given
total_refused S b r h z = sym (if_false _ _ _ (ne_eqb (handed_refusal S b r) 0 (λ e. z (h ∙ e))))

pub total_known : (S : Settings) (b : Books) (r : Room) {n : ℕ} → handed_refusal S b r ≡ 0 → n ≡ held b
    → n ≡ total_given S b r
unfolding total_given
total_known S b r h e = e ∙ sym (if_true _ _ _ (eq-eqb (handed_refusal S b r) 0 h))

pub total_held : (S : Settings) (b : Books) (r : Room) {n : ℕ} → handed_refusal S b r ≡ 0 → n ≡ total_given S b r
    → n ≡ held b
unfolding total_given
total_held S b r h e = e ∙ if_true _ _ _ (eq-eqb (handed_refusal S b r) 0 h)

-- what sound books hold, or 2, behind settings and room that passed
pub held_answer : (S : Settings) (b : Books) (r : Room) → sound_settings S ≡ true → enough_room S r ≡ true
    → (answer_number (ok_or (held_if_sound S b) UnsoundBooks) ≡ handed_refusal S b r)
    × (sum_of (ok_or (held_if_sound S b) UnsoundBooks) ≡ total_given S b r)
held_answer S b r settings space = go (sound_books S b) refl
  where
    go : (t : Bool) → sound_books S b ≡ t
        → (answer_number (ok_or (held_if_sound S b) UnsoundBooks) ≡ handed_refusal S b r)
        × (sum_of (ok_or (held_if_sound S b) UnsoundBooks) ≡ total_given S b r)
    go true h =
        let number = none_refused S b r (record { settings = settings; room = space; books = h }) in
        rw (← some_held S b {x = record { 0 = held b }} (sym h) refl)
        (number, total_known S b r (sym number) refl)
    go false h =
        let number = books_refused S b r settings space h in
        rw (← none_held S b (sym h)) (number, total_refused S b r number (λ z. omega arith))
