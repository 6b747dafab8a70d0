-- What the answer 0 says.
use Rattle.std.specs.Prelude.{◌≡◌, refl, Bool, true, false, not, ℕ, eqb}
use Rattle.std.proofs.Common.{arith, eqb-true}
use Rattle.std.proofs.lemmas.Bool.{eqb-false}
use Rattle.lists.specs.Base.{when◌then◌else◌}
use Rattle.lists.specs.Laws.{not_not, passed}
use Rattle.rules.specs.Types.{Settings, Books}
use Rattle.rules.specs.Acceptance.{sound_settings, sound_books, within_limits, sums_within, all_epochs_within}
use Rattle.rules.specs.Calls.{Call, enough_room, handed_refusal, own_refusal, result, size_refusal, answer, done}

pub record Passed (S : Settings) (b : Books) (c : Call) : Type 0 where
  pub settings : sound_settings S ≡ true
  pub room : enough_room S c.room ≡ true
  pub books : sound_books S b ≡ true
  pub tests : own_refusal S b c.operation ≡ 0
  pub limits : within_limits S (result S b c.operation) ≡ true
  pub sums : sums_within (result S b c.operation) ≡ true
  pub epochs : all_epochs_within (result S b c.operation) ≡ true

-- two refusals in a row came to 0
refusal_passed : (n : ℕ) {r : ℕ} → ◌≡◌ {A = ℕ} (when not (eqb n 0) then n else r) 0 → (n ≡ 0) × (r ≡ 0)
unfolding when◌then◌else◌
refusal_passed n {r} e = go (eqb n 0) refl e
  where
    go : (t : Bool) → eqb n 0 ≡ t → ◌≡◌ {A = ℕ} (when not t then n else r) 0 → (n ≡ 0) × (r ≡ 0)
    go true q e = (eqb-true n 0 q, e)
    go false q e = absurd (eqb-false n 0 q e)

pub done_passed : (S : Settings) (b : Books) (c : Call) → done S b c ≡ true → Passed S b c
unfolding done answer handed_refusal size_refusal
done_passed S b c e =
    let h = refusal_passed (handed_refusal S b c.room) (eqb-true (answer S b c) 0 e) in
    let e₁ = passed _ {n = 1} (omega arith) h.0 in
    let e₃ = passed _ {n = 3} (omega arith) e₁.1 in
    let e₂ = passed _ {n = 2} (omega arith) e₃.1 in
    let o = refusal_passed (own_refusal S b c.operation) h.1 in
    let e₄₀ = passed _ {n = 40} (omega arith) o.1 in
    let e₄₁ = passed _ {n = 41} (omega arith) e₄₀.1 in
    let e₄₂ = passed _ {n = 42} (omega arith) e₄₁.1 in
    record {
      settings = not_not _ e₁.0;
      room = not_not _ e₃.0;
      books = not_not _ e₂.0;
      tests = o.0;
      limits = not_not _ e₄₀.0;
      sums = not_not _ e₄₁.0;
      epochs = not_not _ e₄₂.0;
    }
