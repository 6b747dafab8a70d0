-- What is known of books, a calls file and the room for its results before the first call.
use Rattle.std.specs.Prelude.{◌≡◌, List, ℕ, ◌*◌, ◌≤◌, drop}
use Rattle.std.proofs.Math.Option.{some}
use Rattle.rules.specs.Types as rule
use Rattle.primitives.specs.declared.Scalars.{Scalars}
use Rattle.records.specs.Books.{Tables}
use Rattle.file_format.specs.Words.{words}
use Rattle.file_format.specs.File.{read_calls}
use Rattle.file_calls.specs.Ready.{Accepted, Holds}
use Rattle.runs.specs.Ready.{CallsThere, operations_there}

-- the books hold `held`, and the file has `count` calls, for which there is room; they begin at word 2
pub record Runnable (S : rule.Settings) (s : Scalars) (t : Tables) (file : List ℕ) (space held count : ℕ)
    : Type 0 where
  pub accepted : Accepted S s t
  pub holds : Holds s t held
  pub calls : CallsThere (drop 2 (words file)) count
  pub read : read_calls file ≡ some (operations_there (drop 2 (words file)) count)
  pub room : 3 * count ≤ space
