-- What carrying out a call of a calls file asks: accepted books, and the sum that they hold. The call that is encoded.
use Rattle.std.specs.Prelude.{◌≡◌, List, ℕ}
use Rattle.rules.specs.Types as rule
use Rattle.rules.specs.Acceptance.{held}
use Rattle.rules.specs.Calls.{Operation, handed_refusal}
use Rattle.primitives.specs.declared.Scalars.{Scalars}
use Rattle.records.specs.Books.{Tables, books_of, room_of}
use Rattle.file_format.specs.Words.{words}
use Rattle.file_format.specs.Calls.{call}

abbrev pub Accepted : rule.Settings → Scalars → Tables → Type 0
Accepted S s t = handed_refusal S (books_of s t) (room_of t) ≡ 0

-- the sum that the books hold
abbrev pub Holds : Scalars → Tables → ℕ → Type 0
Holds s t sum = sum ≡ held (books_of s t)

-- what the bytes from a call's code on say
abbrev pub operation_of : List ℕ → Operation
operation_of rest = call.value (words rest)
