-- What the library function promises, and that it leaves no second outcome.
use Rattle.std.specs.Prelude.{◌≡◌, refl, Bool, true, false, List, ℕ, ◌≤◌, ◌<◌, length, ltb}
use Rattle.std.proofs.Common.{sym, ◌∙◌, ltb-true, ltb-false}
use Rattle.table_text.specs.Text.{Printed}
use Rattle.books_output.specs.Output.{output, most_printed}

-- The output stands at the start of the buffer, which holds what it held past it, and its length is answered. In a
-- buffer that is too short for the longest output nothing is changed, and 0 is answered.
pub record BooksOutput (opening calls before after : List ℕ) (r : ℕ) : Type 0 where
  pub printed : most_printed ≤ length before → Printed (output opening calls) before after r
  pub short : length before < most_printed → (r ≡ 0) × (after ≡ before)

-- no two outcomes
pub output_fixed : {opening calls before after last : List ℕ} {r q : ℕ}
    → BooksOutput opening calls before after r → BooksOutput opening calls before last q → (r ≡ q) × (after ≡ last)
output_fixed {before = before} {after} {last} {r} {q} a b = go (ltb (length before) most_printed) refl
  where
    go : (t : Bool) → ltb (length before) most_printed ≡ t → (r ≡ q) × (after ≡ last)
    go true e =
        let h = ltb-true (length before) most_printed e in
        ((a.short h).0 ∙ sym (b.short h).0, (a.short h).1 ∙ sym (b.short h).1)
    go false e =
        let h = ltb-false (length before) most_printed e in
        let x = a.printed h in
        let y = b.printed h in
        (x.size ∙ sym y.size, x.bytes ∙ sym y.bytes)
