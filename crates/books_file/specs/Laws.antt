-- The facts that the reader's functions are proved by.
use Rattle.std.specs.Prelude.{◌≡◌, refl, Bool, ◌&&◌, List, ℕ, ◌+◌, ◌*◌, ◌%◌, ◌^◌, length, get_or, drop, eqb}
use Rattle.std.proofs.Common.{sym, ◌∙◌, arith, drop-drop}
use Rattle.std.proofs.Math.Path.{ap}
use Rattle.lists.specs.Laws.{and_assoc}
use Rattle.file_format.specs.Words.{words, payload, is_word}
use Rattle.file_format.specs.Fields.{number, flag, field, many}
use Rattle.file_format.specs.Books.{validator, deposit, partial, consolidation, books_format}
use Rattle.file_format.specs.File.{ends, file_ok}
use Rattle.file_format.specs.Places.{count_at, list_end, listed_ok}
use Rattle.file_format.specs.Places.{deposits_place, partials_place, consolidations_place, end_place}
use Rattle.file_format.proofs.AccessLaws.{fixed_at, fixed_number, fixed_flag, fixed_key, fixed_credentials}
use Rattle.file_format.proofs.AccessLaws.{fixed_validator, fixed_deposit, fixed_partial, fixed_consolidation}
use Rattle.file_format.proofs.AccessLaws.{many_split, many_numbers, get_d_at, list_ok}
use Rattle.file_format.proofs.PlacesLaws.{books_ok, books_rest}

-- ---- a validator

pub validator_parts : (ws : List ℕ) → validator.ok ws
    ≡ (field 48).ok ws && (field 32).ok (drop 16 ws) && flag.ok (drop 27 ws) && (many number 6).ok (drop 28 ws)
unfolding validator
validator_parts ws =
    let x = fixed_key.rest ws in
    let y = ap (field 32).rest x ∙ fixed_at fixed_credentials 16 ws in
    let z = ap flag.rest y ∙ fixed_at fixed_flag 27 ws in
    let key = (field 48).ok ws in
    let credentials = (field 32).ok (drop 16 ws) in
    let slashed = flag.ok (drop 27 ws) in
    let numbers = (many number 6).ok (drop 28 ws) in
    (λ i. key && ((field 32).ok (x i) && (flag.ok (y i) && (many number 6).ok (z i))))
    ∙ and_assoc key credentials (slashed && numbers)
    ∙ and_assoc (key && credentials) slashed numbers

-- ---- counted lists, each from its count on

-- a count of records of m numbers
unfoldable pub numbers_listed : List ℕ → (m : ℕ) → Bool
numbers_listed ws m = is_word 2 (2 ^ 28) (get_or ws 0 0) && (many number (count_at ws 0 * m)).ok (drop 1 ws)

-- what stands behind a list that begins at word p of a file
pub list_behind : (ws us vs : List ℕ) (p n : ℕ) → us ≡ drop p ws → vs ≡ drop (list_end us 0 n) us
    → vs ≡ drop (list_end ws p n) ws
list_behind ws us vs p n e h =
    let count : count_at us 0 ≡ count_at ws p = ap (λ xs. count_at xs 0) e ∙ ap payload (get_d_at p ws) in
    let q : p + (1 + count_at ws p * n) ≡ list_end ws p n = omega arith in
    h
    ∙ (λ j. drop (1 + count j * n) (e j))
    ∙ drop-drop (1 + count_at ws p * n) p ws
    ∙ ap (λ k. drop k ws) q

-- ---- the words of a books file

-- a list that begins at word p
module _ (ws : List ℕ) (p : ℕ) where
  abbrev here : List ℕ
  here = drop p ws

  deposits_listed : listed_ok deposit p ws ≡ numbers_listed here 2
  unfolding deposit numbers_listed
  deposits_listed =
      sym (list_ok deposit 6 fixed_deposit p ws)
      ∙ ap (λ t. is_word 2 (2 ^ 28) (get_or here 0 0) && t)
      (many_numbers deposit 2 (λ us. refl) fixed_deposit (count_at here 0) (drop 1 here))

  partials_listed : listed_ok partial p ws ≡ numbers_listed here 3
  unfolding partial numbers_listed
  partials_listed =
      sym (list_ok partial 9 fixed_partial p ws)
      ∙ ap (λ t. is_word 2 (2 ^ 28) (get_or here 0 0) && t)
      (many_numbers partial 3 (λ us. refl) fixed_partial (count_at here 0) (drop 1 here))

  consolidations_listed : listed_ok consolidation p ws ≡ numbers_listed here 2
  unfolding consolidation numbers_listed
  consolidations_listed =
      sym (list_ok consolidation 6 fixed_consolidation p ws)
      ∙ ap (λ t. is_word 2 (2 ^ 28) (get_or here 0 0) && t)
      (many_numbers consolidation 2 (λ us. refl) fixed_consolidation (count_at here 0) (drop 1 here))

-- settings and scalars are 28 numbers from word 1 on
pub books_parts : (ws : List ℕ) → books_format.ok ws
    ≡ eqb (get_or ws 0 0) 0x10000001
    && (many number 28).ok (drop 1 ws)
    && listed_ok validator 0 (drop 85 ws)
    && numbers_listed (drop (deposits_place ws) ws) 2
    && numbers_listed (drop (partials_place ws) ws) 3
    && numbers_listed (drop (consolidations_place ws) ws) 2
books_parts ws =
    let head = eqb (get_or ws 0 0) 0x10000001 in
    let settings = (many number 19).ok (drop 1 ws) in
    let scalars = (many number 9).ok (drop 58 ws) in
    let numbers = (many number 28).ok (drop 1 ws) in
    let v = sym (list_ok validator 46 fixed_validator 85 ws) in
    let d = deposits_listed ws (deposits_place ws) in
    let p = partials_listed ws (partials_place ws) in
    let c = consolidations_listed ws (consolidations_place ws) in
    let validators = listed_ok validator 0 (drop 85 ws) in
    let deposits = numbers_listed (drop (deposits_place ws) ws) 2 in
    let partials = numbers_listed (drop (partials_place ws) ws) 3 in
    let consolidations = numbers_listed (drop (consolidations_place ws) ws) 2 in
    let n : settings && scalars ≡ numbers =
    ap (λ us. settings && (many number 9).ok us) (sym (drop-drop 57 1 ws))
    ∙ sym (many_split number 3 fixed_number 19 9 (drop 1 ws)) in
    let lists = validators && (deposits && (partials && consolidations)) in
    books_ok ws
    ∙ (λ j. head && (settings && (scalars && (v j && (d j && (p j && c j))))))
    ∙ ap (λ t. head && t) (and_assoc settings scalars lists ∙ ap (λ t. t && lists) n)
    ∙ and_assoc head numbers lists
    ∙ and_assoc (head && numbers) validators (deposits && (partials && consolidations))
    ∙ and_assoc (head && numbers && validators) deposits (partials && consolidations)
    ∙ and_assoc (head && numbers && validators && deposits) partials consolidations

-- ---- the file

pub file_parts : (bs : List ℕ) → file_ok books_format bs
    ≡ eqb (length bs % 4) 0
    && books_format.ok (words bs)
    && ends (words bs) (drop (end_place (words bs)) (words bs))
unfolding file_ok
file_parts bs =
    let ws = words bs in
    let whole = eqb (length bs % 4) 0 in
    ap (λ us. whole && (books_format.ok ws && ends ws us)) (books_rest ws)
    ∙ and_assoc whole (books_format.ok ws) (ends ws (drop (end_place ws) ws))
