-- What the loop over the calls of a file asks, and what one turn of it leaves.
use Rattle.std.specs.Prelude.{◌≡◌, true, List, ℕ}
use Rattle.rules.specs.Types as rule
use Rattle.rules.specs.Acceptance.{held}
use Rattle.rules.specs.Calls.{Operation}
use Rattle.primitives.specs.declared.Scalars.{Scalars}
use Rattle.records.specs.Books.{Tables, books_of, Called}
use Rattle.file_format.specs.Fields.{many}
use Rattle.file_format.specs.Calls.{written, call}
use Rattle.runs.specs.Lines.{with_line}

-- the words us begin with n calls
abbrev pub CallsThere : (us : List ℕ) (n : ℕ) → Type 0
CallsThere us n = (many call n).ok us ≡ true

abbrev pub operations_there : (us : List ℕ) (n : ℕ) → List Operation
operations_there us n = (many call n).value us

-- the operation op carried out, and its line put into the results
pub record Written (S : rule.Settings) (op : Operation) (s : Scalars) (t u : Tables) (before after : List ℕ) (i : ℕ)
    (r : Scalars) : Type 0 where
  pub number : ℕ
  pub called : Called S op s t u number r
  pub results : after ≡ with_line before i (written op).code number (held (books_of r u))
