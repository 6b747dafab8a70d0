-- The words of a books file by its parts: the front, then the four counted lists.
use Rattle.std.specs.Prelude.{◌≡◌, refl, List, [], ◌∷◌, ◌++◌, ℕ, ◌*◌, ◌≤◌, length}
use Rattle.std.proofs.Common.{ap, ◌∙◌, arith}
use Rattle.rules.specs.Types as rule
use Rattle.primitives.specs.declared.Scalars.{Scalars}
use Rattle.records.specs.Books.{Tables, books_of}
use Rattle.file_format.specs.Words.{word, books_head}
use Rattle.file_format.specs.Fields.{number, each, many}
use Rattle.file_format.specs.Books.{settings, settings_numbers, validator, deposit, partial, consolidation, list_of}
use Rattle.file_format.specs.Books.{books, books_format}
use Rattle.file_format.specs.PutLaws.{put}
use Rattle.file_stores.specs.Laws.{put_next, put_length}

-- the scalars of the front: each count stands before its list
abbrev pub front_scalars : Scalars → List ℕ
front_scalars s =
    s.epoch.0
    ∷ s.next_withdrawal_index.0
    ∷ s.next_withdrawal_validator_index.0
    ∷ s.deposit_receipts_start_index
    ∷ s.deposit_balance_to_consume.0
    ∷ s.exit_balance_to_consume.0
    ∷ s.earliest_exit_epoch.0
    ∷ s.consolidation_balance_to_consume.0
    ∷ s.earliest_consolidation_epoch.0
    ∷ []

-- head, settings and scalars
unfoldable pub front_words : rule.Settings → Scalars → List ℕ
front_words S s =
    word 1 books_head ∷ (each number.write (settings_numbers S) ++ each number.write (front_scalars s))

pub front_length : (S : rule.Settings) (s : Scalars) → length (front_words S s) ≡ 85
unfolding front_words number
front_length S s = refl

-- the head, then the settings, then the scalars
pub front_put : (out o₁ o₂ o₃ xs ys : List ℕ) (S : rule.Settings) (s : Scalars) → 85 * 4 ≤ length out
    → xs ≡ settings_numbers S → ys ≡ front_scalars s → o₁ ≡ put out 0 (0x10000001 ∷ [])
    → o₂ ≡ put o₁ 1 (each number.write xs) → o₃ ≡ put o₂ 58 (each number.write ys)
    → o₃ ≡ put out 0 (front_words S s)
unfolding front_words number
front_put out o₁ o₂ o₃ xs ys S s h p q e f g =
    let head = word 1 books_head ∷ [] in
    let first = each number.write (settings_numbers S) in
    let second = each number.write (front_scalars s) in
    let l : length o₁ ≡ length out = put_length out o₁ 0 head e (omega arith) in
    let f' = f ∙ ap (λ zs. put o₁ 1 (each number.write zs)) p in
    let g' = g ∙ ap (λ zs. put o₂ 58 (each number.write zs)) q in
    let both = put_next o₁ o₂ o₃ 1 58 first second f' g' refl (omega arith) in
    put_next out o₁ o₃ 0 1 head (first ++ second) e both refl (omega arith)

unfoldable pub lists_words : rule.Books → List ℕ
lists_words b =
    (list_of validator).write b.validators
    ++ ((list_of deposit).write b.pending_balance_deposits
    ++ ((list_of partial).write b.pending_partial_withdrawals
    ++ (list_of consolidation).write b.pending_consolidations))

-- what the format writes of books in tables
pub written_parts : (S : rule.Settings) (s : Scalars) (t : Tables)
    → books_format.write (S, books_of s t) ≡ front_words S s ++ lists_words (books_of s t)
unfolding books_format settings books many number front_words lists_words books_of
written_parts S s t = refl
