use mathlib.Core.Path.{◌≡◌}
use Prim.Native.Nat.{◌≤◌}
use lib.ListN.{length}
use Rattle.rules.specs.Types as rule
use Rattle.primitives.specs.Settings.{settings_of}
use Rattle.queue_room.specs.Ready.{lent_consolidations}
use Rattle.queue_room.specs.Represented.{Represented}
use Rattle.queue_room.proofs.Counting.{Counting}
use Rattle.queue_room.proofs.count_excess_entries.Given as goal

abbrev pub invariant-loop-k : goal.invariant-loop-k
invariant-loop-k l = record {
  size : length l.balances ≡ 65536;
  few : l.entries ≤ l.k;
  counted : (b : rule.Books) → Represented l.books.scalars l.books.validators.now l.initial.balances b
      → Counting (settings_of l.fn.settings) l.books.scalars (lent_consolidations l.books) b l.books.validators.now
      l.balances l.k l.entries;
}
