-- The facts that the reads of a books file are proved by.
use Rattle.std.specs.Prelude.{◌≡◌, true, ◌&&◌, List, ℕ, ◌%◌, eqb, drop, length}
use Rattle.std.proofs.Common.{sym, ap, ◌∙◌}
use Rattle.std.proofs.lemmas.Bool.{and_parts}
use Rattle.file_format.specs.Words.{words, payload}
use Rattle.file_format.specs.Fields.{number, many}
use Rattle.file_format.specs.Books.{validator, books_format}
use Rattle.file_format.specs.File.{ends, file_ok}
use Rattle.file_format.specs.Places.{count_at}
use Rattle.file_format.specs.PlacesLaws.{Good}
use Rattle.file_format.proofs.AccessLaws.{get_d_at}
use Rattle.file_format.proofs.PlacesLaws.{good}
use Rattle.books_file.specs.Laws.{validator_parts}

-- ---- a judged file

pub file_good : (bs : List ℕ) → file_ok books_format bs ≡ true → Good (words bs)
unfolding file_ok
file_good bs e =
    let ws = words bs in
    let whole = and_parts (eqb (length bs % 4) 0) (books_format.ok ws && ends ws (books_format.rest ws)) e in
    good ws (and_parts (books_format.ok ws) (ends ws (books_format.rest ws)) whole.1).0

-- ---- the six numbers of a validator

pub validator_numbers : (ws : List ℕ) → validator.ok ws ≡ true → (many number 6).ok (drop 28 ws) ≡ true
validator_numbers ws e = (and_parts _ _ (sym (validator_parts ws) ∙ e)).1

-- ---- counts

-- the count of a list that stands at word p
pub list_count : (p : ℕ) (ws : List ℕ) {list : List ℕ} {n : ℕ} → list ≡ drop p ws → n ≡ count_at list 0
    → n ≡ count_at ws p
list_count p ws e h = h ∙ ap (λ l. count_at l 0) e ∙ ap payload (get_d_at p ws)
