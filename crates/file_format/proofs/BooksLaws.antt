-- The laws of the books file's format.
use Rattle.std.specs.Prelude.{◌≡◌, refl, true, List, ℕ, ◌^◌, get_or}
use Rattle.std.proofs.Common.{arith}
use Rattle.lists.specs.Laws.{both}
use Rattle.tables.specs.Rows.{rows, rows_getD}
use Rattle.rules.specs.Profiles.{settings_from}
use Rattle.file_format.specs.Words.{books_head}
use Rattle.file_format.specs.Fields.{Format, number, flag, field, ◌⊗◌, many}
use Rattle.file_format.specs.Books.{settings, settings_numbers, validator, ValidatorParts}
use Rattle.file_format.specs.Books.{validator_parts, validator_of, deposit, deposit_numbers, deposit_of}
use Rattle.file_format.specs.Books.{partial, partial_numbers, partial_of}
use Rattle.file_format.specs.Books.{consolidation, consolidation_numbers, consolidation_of}
use Rattle.file_format.specs.Books.{books, BooksParts, books_parts, books_from, list_of, books_format}
use Rattle.file_format.proofs.FieldsLaws.{Lawful, number_lawful, flag_lawful, field_lawful, pair_lawful}
use Rattle.file_format.proofs.FieldsLaws.{parts_lawful, many_lawful, many_length, counted_lawful, headed_lawful}

-- n numbers are those that are read one by one
numbers_read : (n : ℕ) (xs : List ℕ) → (many number n).domain xs ≡ true → rows n (λ k. get_or xs k 0) ≡ xs
numbers_read n xs e = rows_getD xs n 0 (many_length number n xs e)

numbers_lawful : (n : ℕ) → Lawful (many number n)
numbers_lawful n = many_lawful number_lawful n

-- ---- the records

pub settings_lawful : Lawful settings
unfolding settings rows
settings_lawful =
    parts_lawful settings_numbers settings_from (numbers_lawful 19) (λ S. refl) (numbers_read 19)

validator_there : (p : ValidatorParts) → (field 48 ⊗ field 32 ⊗ flag ⊗ many number 6).domain p ≡ true
    → validator_parts (validator_of p) ≡ p
unfolding rows
validator_there p e =
    let s = both ((field 48).domain p.0) _ e in
    let t = both ((field 32).domain p.1.0) _ s.1 in
    let u = both (flag.domain p.1.1.0) ((many number 6).domain p.1.1.1) t.1 in
    λ i. (p.0, (p.1.0, (p.1.1.0, numbers_read 6 p.1.1.1 u.1 i)))

pub validator_lawful : Lawful validator
unfolding validator
validator_lawful =
    parts_lawful validator_parts validator_of
    (pair_lawful (field_lawful 48) (pair_lawful (field_lawful 32) (pair_lawful flag_lawful (numbers_lawful 6))))
    (λ v. refl) validator_there

pub deposit_lawful : Lawful deposit
unfolding deposit rows
deposit_lawful = parts_lawful deposit_numbers deposit_of (numbers_lawful 2) (λ d. refl) (numbers_read 2)

pub partial_lawful : Lawful partial
unfolding partial rows
partial_lawful = parts_lawful partial_numbers partial_of (numbers_lawful 3) (λ p. refl) (numbers_read 3)

pub consolidation_lawful : Lawful consolidation
unfolding consolidation rows
consolidation_lawful =
    parts_lawful consolidation_numbers consolidation_of (numbers_lawful 2) (λ c. refl) (numbers_read 2)

list_lawful : {A : Type 0} {F : Format A} → Lawful F → Lawful (list_of F)
list_lawful f = counted_lawful (2 ^ 28) (omega arith) f

-- ---- the books

abbrev lists_format : Format BooksParts
lists_format = many number 9 ⊗ list_of validator ⊗ list_of deposit ⊗ list_of partial ⊗ list_of consolidation

books_there : (p : BooksParts) → lists_format.domain p ≡ true → books_parts (books_from p) ≡ p
unfolding rows
books_there p e =
    let s = both ((many number 9).domain p.0) _ e in
    λ i. (numbers_read 9 p.0 s.0 i, p.1)

pub books_lawful : Lawful books
unfolding books
books_lawful =
    parts_lawful books_parts books_from
    (pair_lawful (numbers_lawful 9)
    (pair_lawful (list_lawful validator_lawful)
    (pair_lawful (list_lawful deposit_lawful)
    (pair_lawful (list_lawful partial_lawful) (list_lawful consolidation_lawful)))))
    (λ b. refl) books_there

pub books_format_lawful : Lawful books_format
unfolding books_format
books_format_lawful = headed_lawful books_head (omega arith) (pair_lawful settings_lawful books_lawful)
