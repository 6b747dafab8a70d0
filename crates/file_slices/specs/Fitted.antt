-- The number of a call that is lent scalars as a slice: a slice that is too short is a short buffer.
use Rattle.std.specs.Prelude.{◌≡◌, refl, Bool, true, false, List, [], ℕ}
use Rattle.std.proofs.Common.{sym, ◌∙◌}
use Rattle.lists.specs.Base.{when◌then◌else◌}
use Rattle.lists.specs.Laws.{if_true, if_false}
use Rattle.slices.specs.Exported.{rules_in, fit, unfit_answer, unfit_refused}

-- n where the slice s has room for the scalars; settings are in xs
unfoldable pub fitted : (xs s : List ℕ) → ℕ → ℕ
fitted xs s n = when fit s [] then n else unfit_answer (rules_in xs)

pub fitted_fit : (xs s : List ℕ) (n : ℕ) → fit s [] ≡ true → fitted xs s n ≡ n
unfolding fitted
fitted_fit xs s n e = if_true _ _ _ e

pub fitted_unfit : (xs s : List ℕ) (n : ℕ) → fit s [] ≡ false → fitted xs s n ≡ unfit_answer (rules_in xs)
unfolding fitted
fitted_unfit xs s n e = if_false _ _ _ e

-- what is answered 0 was lent room for the scalars
pub fitted_done : (xs s : List ℕ) (n : ℕ) → fitted xs s n ≡ 0 → fit s [] ≡ true
fitted_done xs s n e = go (fit s []) refl
  where
    go : (f : Bool) → fit s [] ≡ f → f ≡ true
    go true p = refl
    go false p = absurd (unfit_refused (rules_in xs) (sym (fitted_unfit xs s n p) ∙ e))
