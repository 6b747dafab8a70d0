-- What the consolidation loop leaves in the scalars and the tables.
use Rattle.std.specs.Prelude.{◌≡◌, ℕ, ◌≤◌, drop}
use Rattle.rules.specs.Types.{Settings}
use Rattle.rules.specs.Update.{with_pending_consolidations}
use Rattle.rules.specs.EpochProcessing.{process_pending_consolidations}
use Rattle.primitives.specs.declared.Scalars.{Scalars}
use Rattle.primitives.specs.Scalars.{with_deposits}
use Rattle.records.specs.Books.{Tables, Beyond, books_of, consolidations_of}

-- the entries before `next` are processed: the books were s and t, and are r and u but for the queue
pub record Consolidated (S : Settings) (s : Scalars) (t u : Tables) (r : Scalars) (next : ℕ) : Type 0 where
  pub loop : with_pending_consolidations (drop next (consolidations_of s t.consolidations)) (books_of r u)
      ≡ process_pending_consolidations S (books_of s t)
  pub reached : next ≤ s.consolidations
  pub counts : r ≡ with_deposits s r.deposits
  pub beyond : Beyond r u t
