-- The file of the closing books, from the bytes of opening.w and calls.w.
use Rattle.std.specs.Prelude.{◌≡◌, refl, Bool, true, false, List, [], ℕ, length, ltb, eqb}
use Rattle.std.proofs.Common.{sym, ◌∙◌, eqb-true}
use Rattle.std.proofs.lemmas.Bool.{eqb-false}
use Rattle.lists.specs.Base.{when◌then◌else◌}
use Rattle.rules.specs.Calls.{run}
use Rattle.file_format.specs.File.{write_books}
use Rattle.file_format.specs.Answers.{over}
use Rattle.books_output.specs.Files.{Files, refused, accepted, files}

-- the books that the calls leave; no file where the files are refused
abbrev pub closing_of : Files → List ℕ
closing_of (refused n) = []
closing_of (accepted S b cs) = write_books S (run S b cs)

-- the number of the refusal, then 61 where the buffer is shorter than the file
abbrev pub closing_number : Files → (space : ℕ) → ℕ
closing_number (refused n) space = n
closing_number (accepted S b cs) space = when ltb space (length (write_books S (run S b cs))) then 61 else 0

unfoldable pub closing : (opening calls : List ℕ) → List ℕ
closing opening calls = closing_of (files opening calls)

unfoldable pub closing_answer : (opening calls : List ℕ) → (space : ℕ) → ℕ
closing_answer opening calls space = closing_number (files opening calls) space

-- The number n is the definition's answer. On 0 the closing books stand at the start of the buffer, which holds what it
-- held past their `size` bytes; a refusal changes nothing.
pub record ClosingWritten (opening calls before after : List ℕ) (n size : ℕ) : Type 0 where
  pub number : n ≡ closing_answer opening calls (length before)
  pub done : n ≡ 0 → (size ≡ length (closing opening calls)) × (after ≡ over (closing opening calls) before)
  pub refused : (n ≡ 0 → ⊥) → (size ≡ 0) × (after ≡ before)

-- no two outcomes
pub closing_fixed : {opening calls before after last : List ℕ} {n m size bytes : ℕ}
    → ClosingWritten opening calls before after n size → ClosingWritten opening calls before last m bytes
    → (n ≡ m) × (size ≡ bytes) × (after ≡ last)
closing_fixed {after = after} {last} {n} {m} {size} {bytes} a b = go (eqb n 0) refl
  where
    same : n ≡ m
    same = a.number ∙ sym b.number

    go : (t : Bool) → eqb n 0 ≡ t → (n ≡ m) × (size ≡ bytes) × (after ≡ last)
    go true e =
        let z = eqb-true n 0 e in
        let x = a.done z in
        let y = b.done (sym same ∙ z) in
        (same, x.0 ∙ sym y.0, x.1 ∙ sym y.1)
    go false e =
        let z = eqb-false n 0 e in
        let x = a.refused z in
        let y = b.refused (λ q. z (same ∙ q)) in
        (same, x.0 ∙ sym y.0, x.1 ∙ sym y.1)
