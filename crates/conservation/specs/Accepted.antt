-- Accepted books stay accepted under every list of calls, so that no call after the first is refused for its books.
use Rattle.std.specs.Prelude.{◌≡◌, true, List, [], ◌∷◌}
use Rattle.rules.specs.Types.{Settings, Books}
use Rattle.rules.specs.Acceptance.{sound_books}
use Rattle.rules.specs.Calls.{Call, answer, after, run}
use Rattle.conservation.specs.Proofs.Standing.{after_sound, not_answered_2}

pub after_accepted : (S : Settings) (b : Books) (c : Call) → sound_books S b ≡ true → sound_books S (after S b c) ≡ true
after_accepted = after_sound

pub run_accepted : (S : Settings) (b : Books) (cs : List Call) → sound_books S b ≡ true
    → sound_books S (run S b cs) ≡ true
run_accepted S b [] p = p
run_accepted S b (c ∷ cs) p = run_accepted S (after S b c) cs (after_accepted S b c p)

-- a call on accepted books is never answered 2
pub never_2 : (S : Settings) (b : Books) (c : Call) → sound_books S b ≡ true → answer S b c ≡ 2 → ⊥
never_2 = not_answered_2
