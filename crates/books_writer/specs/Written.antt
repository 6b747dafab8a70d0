-- What the writer of books promises.
use Rattle.std.specs.Prelude.{◌≡◌, true, List, ℕ, ◌+◌, ◌*◌, ◌≤◌, length, take}
use Rattle.std.proofs.Math.Option.{some}
use Rattle.lists.specs.Base.{every}
use Rattle.rules.specs.Types.{Settings}
use Rattle.rules.specs.Acceptance.{is_flag}
use Rattle.primitives.specs.declared.Scalars.{Scalars}
use Rattle.records.specs.Layout.{identities_fit, validators_fit, deposits_fit, partials_fit, consolidations_fit}
use Rattle.records.specs.Books.{Tables, books_of, room_of, validators_of}
use Rattle.file_format.specs.Answers.{write_answer, over}
use Rattle.file_format.specs.File.{write_books, read_books}

-- The number n is the definition's answer. On 0 the file stands at the start of the buffer, which holds what it held
-- past the file's `size` bytes; a refusal changes nothing.
pub record BooksWritten (S : Settings) (s : Scalars) (t : Tables) (out last : List ℕ) (n size : ℕ) : Type 0 where
  pub number : n ≡ write_answer S (books_of s t) (room_of t) (length out)
  pub done :
      n ≡ 0 → (size ≡ length (write_books S (books_of s t))) × (last ≡ over (write_books S (books_of s t)) out)
  pub refused : (n ≡ 0 → ⊥) → (size ≡ 0) × (last ≡ out)
  -- what was written reads back to the same settings and books
  pub read : n ≡ 0 → read_books (take size last) ≡ some (S, books_of s t)

-- how many bytes the file has
abbrev pub file_length : Scalars → ℕ
file_length s =
    (90 + s.validators * 46 + s.deposits * 6 + s.partials * 9 + s.consolidations * 6) * 4

-- what accepted books give the writer
pub record Ready (s : Scalars) (t : Tables) : Type 0 where
  pub identities : s.validators ≤ identities_fit t.identities
  pub validators : s.validators ≤ validators_fit t.validators
  pub deposits : s.deposits ≤ deposits_fit t.deposits
  pub partials : s.partials ≤ partials_fit t.partials
  pub consolidations : s.consolidations ≤ consolidations_fit t.consolidations
  pub most_validators : s.validators ≤ 65536
  pub most_deposits : s.deposits ≤ 65536
  pub most_partials : s.partials ≤ 65536
  pub most_consolidations : s.consolidations ≤ 65536
  pub flags : every is_flag (validators_of s t.identities t.validators) ≡ true
