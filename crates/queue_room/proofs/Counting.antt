-- The consolidation loop on the switchable balances.
use mathlib.Core.Path.{◌≡◌, ap}
use mathlib.Core.Logic.{◌≢◌}
use mathlib.Core.Bool.{true}
use mathlib.Core.List.{List, [], ◌∷◌, ◌++◌}
use Prim.Native.Nat.{ℕ, ◌+◌, ◌<◌, ◌≤◌}
use native.Mathlib.Omega.{arith}
use lib.ListN.{length, get_or, drop, length-append}
use lib.Dec.{ltb}
use borrow.Author.Tests.{ltb-true, lt-ltb, le-ltb, ne_eqb}
use Rattle.lists.specs.Base.{when◌then◌else◌, every}
use Rattle.lists.specs.Laws.{both}
use Rattle.tables.specs.Rows.{rows, drop_rows_at, drop_rows_end}
use Rattle.tables.specs.Tests.{every_row}
use Rattle.rules.specs.Types.{Settings, PendingConsolidation, Books}
use Rattle.rules.specs.EpochProcessing.{consolidate}
use Rattle.rules.specs.Acceptance.{consolidation_in}
use Rattle.rules.specs.Counting.{excess_entry, excess_entries}
use Rattle.primitives.specs.declared.Scalars.{Scalars}
use Rattle.records.specs.Layout.{slashed_at, withdrawable_epoch_at, consolidation_at}
use Rattle.compounding.specs.Laws.{excess_entry_count}
use Rattle.queue_room.specs.Balances.{excess_entry_length, consolidated_balances}
use Rattle.queue_room.specs.Represented.{Represented, represented_consolidate}
use Rattle.queue_room.specs.Room.{at_most_one}

-- k of the consolidations cs are passed, `found` entries counted, and `now` are the books that this leaves
pub record Counting (S : Settings) (s : Scalars) (cs : List PendingConsolidation) (b : Books) (ws w : List ℕ)
    (k found : ℕ) : Type 0 where
  pub now : Books
  pub represented : Represented s ws w now
  pub left : found + length (excess_entries S (drop k cs) now) ≡ length (excess_entries S cs b)

pub counting_none : {S : Settings} {s : Scalars} {cs : List PendingConsolidation} {b : Books} {ws w : List ℕ}
    → Represented s ws w b → Counting S s cs b ws w 0 0
counting_none {S} {s} {cs} {b} h = record { now = b; represented = h; left = omega arith }

module _ {S : Settings} {s : Scalars} {cs : List PendingConsolidation} {b : Books} {ws w : List ℕ} {k found : ℕ}
    (l : Counting S s cs b ws w k found) where
  pub counting_end : drop k cs ≡ [] → found ≡ length (excess_entries S cs b)
  unfolding excess_entries
  counting_end e = omega (arith, l.left, ap (λ x. length (excess_entries S x l.now)) e)

  module _ (c : PendingConsolidation) (e : drop k cs ≡ c ∷ drop (k + 1) cs) (i : c.source_index < s.validators) where
    -- what is left, at the record c, comes to n
    left_with : {n : ℕ} → length (excess_entries S (c ∷ drop (k + 1) cs) l.now) ≡ n
        → found + n ≡ length (excess_entries S cs b)
    left_with f = omega (arith, l.left, ap (λ x. length (excess_entries S x l.now)) e, f)

    pub counting_skip : {x : ℕ} → x ≡ slashed_at ws c.source_index → x ≡ 1 → Counting S s cs b ws w (k + 1) found
    unfolding excess_entries when◌then◌else◌
    counting_skip p q = record {
      now = l.now;
      represented = l.represented;
      left = left_with (rw (l.represented.slashed c.source_index i, ← p, q));
    }

    -- a source that is not slashed, with its withdrawable epoch
    module _ {x : ℕ} (p : x ≡ slashed_at ws c.source_index) (q : x ≢ 1)
        {epoch : ℕ} (r : epoch ≡ withdrawable_epoch_at ws c.source_index) where
      stopped : s.epoch.0 < epoch → excess_entries S (c ∷ drop (k + 1) cs) l.now ≡ []
      unfolding excess_entries when◌then◌else◌
      stopped t =
          rw (
            l.represented.slashed c.source_index i,
            ← p,
            ne_eqb x 1 q,
            l.represented.epoch,
            l.represented.withdrawable c.source_index i,
            ← r,
            lt-ltb s.epoch.0 epoch t,
          )

      pub counting_stop : s.epoch.0 < epoch → found ≡ length (excess_entries S cs b)
      counting_stop t = omega (arith, left_with {n = 0} (ap length (stopped t)))

      consolidated : epoch ≤ s.epoch.0
          → excess_entries S (c ∷ drop (k + 1) cs) l.now
          ≡ excess_entry S c.target_index l.now ++ excess_entries S (drop (k + 1) cs) (consolidate S c l.now)
      unfolding excess_entries when◌then◌else◌
      consolidated t =
          rw (
            l.represented.slashed c.source_index i,
            ← p,
            ne_eqb x 1 q,
            l.represented.epoch,
            l.represented.withdrawable c.source_index i,
            ← r,
            le-ltb s.epoch.0 epoch t,
          )

      pub counting_more : epoch ≤ s.epoch.0 → s.validators ≤ length w → c.target_index < s.validators
          → {u : List ℕ} {entries : ℕ}
          → entries ≡ excess_entry_count S.min_activation_balance (get_or w c.target_index 0)
          → u ≡ consolidated_balances S.min_activation_balance c.source_index c.target_index w
          → Counting S s cs b ws u (k + 1) (found + entries)
      counting_more t h j {u} {entries} f g = rw g record {
        now = consolidate S c l.now;
        represented = represented_consolidate S c h i j l.represented;
        left =
            omega (
              arith,
              left_with (ap length (consolidated t)),
              f,
              ap (excess_entry_count S.min_activation_balance) (l.represented.balances.each c.target_index j),
              excess_entry_length S c.target_index l.now,
              length-append (excess_entry S c.target_index l.now)
                  (excess_entries S (drop (k + 1) cs) (consolidate S c l.now)),
            );
      }

-- the validators of consolidation k are there
pub named : (n m : ℕ) (cs : List ℕ) (k : ℕ) → k < m
    → every (consolidation_in n) (rows m (consolidation_at cs)) ≡ true
    → {c : PendingConsolidation} → c ≡ consolidation_at cs k → (c.source_index < n) × (c.target_index < n)
named n m cs k h inside {c} e =
    let t : consolidation_in n c ≡ true = rw e (every_row (consolidation_in n) m (consolidation_at cs) inside k h) in
    let s = both (ltb c.source_index n) (ltb c.target_index n) t in
    (ltb-true c.source_index n s.0, ltb-true c.target_index n s.1)

-- consolidation k is the next one
pub consolidation_next : (m : ℕ) (cs : List ℕ) (k : ℕ) → k < m
    → {c : PendingConsolidation} → c ≡ consolidation_at cs k
    → drop k (rows m (consolidation_at cs)) ≡ c ∷ drop (k + 1) (rows m (consolidation_at cs))
consolidation_next m cs k h {c} e = rw e (drop_rows_at m (consolidation_at cs) k h)

-- the laws that the check applies by itself
pub ruleset counting_loop = (counting_none, counting_end, named, at_most_one, drop_rows_end)
