-- The expected list that an exported call gives.
use Rattle.std.specs.Prelude.{◌≡◌, List, ℕ}
use Rattle.std.proofs.Common.{sym, ◌∙◌, eq-eqb}
use Rattle.lists.specs.Laws.{if_true}
use Rattle.rules.specs.Types.{Settings}
use Rattle.rules.specs.Calls.{handed_refusal}
use Rattle.primitives.specs.Settings.{settings_of}
use Rattle.primitives.specs.declared.Settings as declared
use Rattle.primitives.specs.declared.Scalars.{Scalars}
use Rattle.records.specs.Books.{Tables, books_of, room_of}
use Rattle.expected_withdrawals.specs.declared.ExpectedWithdrawals.{ExpectedWithdrawals}
use Rattle.expected_withdrawals.specs.Expected.{expected_of}
use Rattle.operations.specs.Expected.{expected_given}
use Rattle.slices.specs.Numbers.{settings_in, scalars_in}
use Rattle.slices.specs.Exported.{rules_in}

-- of the settings in xs, the scalars in s and the tables t
abbrev pub expected_in : List ℕ → List ℕ → Tables → ExpectedWithdrawals
expected_in xs s t = expected_of (rules_in xs) (books_of (scalars_in s) t)

pub expected_done : (settings : declared.Settings) (xs : List ℕ) (t : Tables) (s : List ℕ) (before : Scalars)
    {n : ℕ} {e : ExpectedWithdrawals}
    → settings ≡ settings_in xs → before ≡ scalars_in s
    → n ≡ handed_refusal (settings_of settings) (books_of before t) (room_of t) → n ≡ 0
    → e ≡ expected_given (settings_of settings) (books_of before t) (room_of t) → e ≡ expected_in xs s t
unfolding expected_given
expected_done settings xs t s before {n} {e} c b h z g = rw (c, b) at found
  where
    found : e ≡ expected_of (settings_of settings) (books_of before t)
    found =
        g
        ∙ if_true _ _ _ (eq-eqb (handed_refusal (settings_of settings) (books_of before t) (room_of t)) 0 (sym h ∙ z))
