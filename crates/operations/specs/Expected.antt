-- The expected list asked for alone: the definition's on accepted books, and an empty one on a refusal.
use Rattle.std.specs.Prelude.{◌≡◌, ℕ, eqb}
use Rattle.std.proofs.Common.{sym, ◌∙◌, eq-eqb, ne_eqb}
use Rattle.lists.specs.Base.{when◌then◌else◌}
use Rattle.lists.specs.Laws.{if_true, if_false}
use Rattle.rules.specs.Types.{Settings, Books}
use Rattle.rules.specs.Calls.{Room, handed_refusal}
use Rattle.expected_withdrawals.specs.declared.ExpectedWithdrawals.{ExpectedWithdrawals}
use Rattle.expected_withdrawals.specs.Expected.{no_withdrawals, expected_of}

unfoldable pub expected_given : Settings → Books → Room → ExpectedWithdrawals
expected_given S b r = when eqb (handed_refusal S b r) 0 then expected_of S b else no_withdrawals

pub expected_refused : (S : Settings) (b : Books) (r : Room) {n : ℕ} {e : ExpectedWithdrawals}
    → n ≡ handed_refusal S b r → (n ≡ 0 → ⊥) → e ≡ no_withdrawals → e ≡ expected_given S b r
unfolding expected_given
expected_refused S b r h z e = e ∙ sym (if_false _ _ _ (ne_eqb (handed_refusal S b r) 0 (λ q. z (h ∙ q))))

pub expected_known : (S : Settings) (b : Books) (r : Room) {e : ExpectedWithdrawals} → handed_refusal S b r ≡ 0
    → e ≡ expected_of S b → e ≡ expected_given S b r
unfolding expected_given
expected_known S b r h e = e ∙ sym (if_true _ _ _ (eq-eqb (handed_refusal S b r) 0 h))
