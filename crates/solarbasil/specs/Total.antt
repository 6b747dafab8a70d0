-- The sum that an exported call gives.
use Rattle.std.specs.Prelude.{◌≡◌, List, ℕ}
use Rattle.std.proofs.Common.{sym, ◌∙◌, eq-eqb}
use Rattle.lists.specs.Laws.{if_true}
use Rattle.rules.specs.Types.{Settings}
use Rattle.rules.specs.Acceptance.{held}
use Rattle.rules.specs.Calls.{handed_refusal}
use Rattle.primitives.specs.declared.Scalars.{Scalars}
use Rattle.records.specs.Books.{Tables, books_of, room_of}
use Rattle.acceptance.specs.Total.{total_given}
use Rattle.slices.specs.Numbers.{scalars_in}
use Rattle.slices.specs.Exported.{given, given_done}

pub total_done : (S : Settings) (t : Tables) (s : List ℕ) (before : Scalars) {n x : ℕ} (old : ℕ)
    → before ≡ scalars_in s → n ≡ handed_refusal S (books_of before t) (room_of t) → n ≡ 0
    → x ≡ total_given S (books_of before t) (room_of t) → x ≡ given n (held (books_of (scalars_in s) t)) old
unfolding total_given
total_done S t s before {n} {x} old b h z e = (rw b at sum) ∙ given_done old z
  where
    sum : x ≡ held (books_of before t)
    sum = e ∙ if_true _ _ _ (eq-eqb (handed_refusal S (books_of before t) (room_of t)) 0 (sym h ∙ z))
